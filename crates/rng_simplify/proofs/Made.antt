-- What composing makes of a file is the schema in one piece.
use Rattle.std.proofs.Common.{◌≡◌, refl, sym, ap, subst, ℕ, Bool, true, false, List, [], ◌∷◌, ◌++◌, length, Some}
use Rattle.std.proofs.lemmas.List.{append_assoc}
use Rattle.nx_host.specs.Files.{FileMap}
use Rattle.rnc_parse.specs.declared.surface.TypeName.{TypeName}
use Rattle.rnc_parse.specs.declared.surface.Param.{Param}
use Rattle.rnc_parse.specs.declared.surface.FileReference.{FileReference}
use Rattle.rnc_parse.specs.Written.{WrittenPattern, WrittenItem, WrittenItems, WrittenReplacement, WrittenReplacements, WrittenSurface}
use Rattle.rnc_parse.specs.Written as written
use Rattle.rng_simplify.specs.declared.node.Clause.{Clause}
use Rattle.rng_simplify.specs.declared.node.Sign.{Sign}
use Rattle.rng_simplify.specs.declared.node.Sign.TheVariants as sign
use Rattle.rng_simplify.specs.Classes.{class_in}
use Rattle.rng_simplify.specs.Cells.{Cell}
use Rattle.rng_simplify.specs.Cells as cell
use Rattle.rng_simplify.specs.Composed.{Composed, Clauses, end_of_clauses, clause_then, then_clauses, but_for}
use Rattle.rng_simplify.specs.Composed as composed
use Rattle.rng_simplify.specs.ComposedFiles.{Context, Opens, grammar_items, Composes, ComposesFile, Gathers, by_element, by_attribute, by_list, by_ref, by_parent_ref, by_empty, by_text, by_not_allowed, by_value, by_type, by_type_but, by_external, by_grammar, by_optional, by_zero_or_more, by_one_or_more, by_mixed, by_choice, by_group, by_interleave, of_pattern as file_of_pattern, of_grammar as file_of_grammar, GathersAnew, no_item, definition, division, inclusion, none_anew, definition_anew, division_anew}
use Rattle.rng_simplify.specs.CellMeanings.{IsCell, Denotes, DenoteAll, is_element, is_attribute, is_list, is_ref, is_parent_ref, is_empty, is_text, is_not_allowed, is_value, is_type, is_grammar, is_one_or_more, is_joined, composed_by, none_denoted, next_denoted}
use Rattle.rng_simplify.specs.MadeCells.{Stock, Outcome, made, refused, no_piece, ◌>>=◌, FilePiece, of_pattern, of_grammar, cell_made, or_empty_made, next_piece, as_pattern, as_grammar, next_grammar, make, make_item, make_items, make_replacement, make_anew, replaced_if, defines_all, with_new}
use Rattle.rng_simplify.specs.References.{Mention, an_external, an_include, mentions, mentions_of_items, mentions_anew}
use Rattle.rnc_parse.specs.declared.surface.Defined.{Defined}
use Rattle.rnc_parse.specs.declared.surface.Combine.{Combine}
use Rattle.rng_simplify.proofs.Replacing.{both_denoted, each_defined, replaced_alike, then_again_clauses}
use Rattle.rng_simplify.specs.SuppliedPieces.{Grows, Supply, a_pattern_piece, a_grammar_piece, Supplies, nothing_more, one_further, IsMadeOf, PatternsAreComposed}
use Rattle.rng_simplify.proofs.Growing.{grows_not, grows_on, denotes_on, denote_all_on, one_more, last_cell}

-- ---- steps

pub record Both {A B : Type 0} (outcome : Outcome A) (more : A → Stock → Outcome B) (b : B) (new : Stock) : Type 0 where
  pub value : A
  pub mid : Stock
  pub first : outcome ≡ made value mid
  pub second : more value mid ≡ made b new

abbrev pub value_or : {A : Type 0} → A → Outcome A → A
value_or other (made value now) = value
value_or other (refused why) = other
value_or other no_piece = other

abbrev pub now_or : {A : Type 0} → Stock → Outcome A → Stock
now_or other (made value now) = now
now_or other (refused why) = other
now_or other no_piece = other

abbrev pub is_made : {A : Type 0} → Outcome A → Type 0
is_made (made value now) = Unit {0}
is_made (refused why) = ⊥
is_made no_piece = ⊥

pub both : {A B : Type 0} → (outcome : Outcome A) (more : A → Stock → Outcome B) (b : B) (new : Stock) → (outcome >>= more) ≡ made b new → Both outcome more b new
both (made value mid) more b new h = record { value = value; mid = mid; first = refl; second = h }
both (refused why) more b new h = absurd (subst is_made (sym h) tt)
both no_piece more b new h = absurd (subst is_made (sym h) tt)

pub supply_on : {files : FileMap} {number : ℕ → ℕ} {context : Context} {old new : List Cell} {mention : Mention} {piece : FilePiece} → Grows old new → Supply files number context old mention piece → Supply files number context new mention piece
supply_on grows (a_pattern_piece opens items composes denotes) = a_pattern_piece opens items composes (denotes_on grows denotes)
supply_on grows (a_grammar_piece opens items gathers denotes) = a_grammar_piece opens items gathers (denote_all_on grows denotes)

pub supplies_on : {files : FileMap} {number : ℕ → ℕ} {context : Context} {old new : List Cell} {more : List Mention} {pieces : List FilePiece} → Grows old new → Supplies files number context old more pieces → Supplies files number context new more pieces
supplies_on grows nothing_more = nothing_more
supplies_on grows (one_further first rest) = one_further (supply_on grows first) (supplies_on grows rest)

-- ---- what is made of a pattern

module _ (files : FileMap) (number : ℕ → ℕ) (context : Context) where
  abbrev Made : WrittenPattern → List Mention → ℕ → Stock → Stock → Type 0
  Made = IsMadeOf files number context

  -- a further cell
  leaf : (p : WrittenPattern) (q : ℕ → Composed) (more : List Mention) (c : Cell) (i : ℕ) (old new : Stock) → ((i : ℕ) → Composes files context p (q i)) → ((cells : List Cell) (i : ℕ) → IsCell cells i c → Denotes cells number i (q i)) → Supplies files number context old.cells more old.pieces → cell_made c old ≡ made i new → Made p more i old new
  leaf p q more c i old new composes denotes supplied is =
      subst (λ n. Made p more i old n) (ap (now_or old) is) (subst (λ j. Made p more j old (record { cells = old.cells ++ c ∷ []; pieces = old.pieces })) (ap (value_or i) is) (record {
        whole = q (length old.cells);
        composes = composes (length old.cells);
        denotes = denotes _ (length old.cells) (last_cell old.cells c);
        grows = one_more old.cells c;
        left = supplies_on (one_more old.cells c) supplied;
      }))

  -- a further cell around one part
  around : (p w : WrittenPattern) (q : ℕ → Composed → Composed) (more : List Mention) (c : ℕ → Cell) (part i : ℕ) (old mid new : Stock) → ((i : ℕ) (whole : Composed) → Composes files context p whole → Composes files context w (q i whole)) → ((cells : List Cell) (part i : ℕ) (whole : Composed) → IsCell cells i (c part) → Denotes cells number part whole → Denotes cells number i (q i whole)) → Made p more part old mid → cell_made (c part) mid ≡ made i new → Made w more i old new
  around p w q more c part i old mid new composes denotes inner is =
      subst (λ n. Made w more i old n) (ap (now_or mid) is) (subst (λ j. Made w more j old (record { cells = mid.cells ++ c part ∷ []; pieces = mid.pieces })) (ap (value_or i) is) (record {
        whole = q (length mid.cells) inner.whole;
        composes = composes (length mid.cells) inner.whole inner.composes;
        denotes = denotes _ part (length mid.cells) inner.whole (last_cell mid.cells (c part)) (denotes_on (one_more mid.cells (c part)) inner.denotes);
        grows = grows_on inner.grows (one_more mid.cells (c part));
        left = supplies_on (one_more mid.cells (c part)) inner.left;
      }))

  -- a further cell around two
  between : (p1 p2 w : WrittenPattern) (more more2 : List Mention) (by : Sign) (first second i : ℕ) (old mid then new : Stock) → ((q1 q2 : Composed) → Composes files context p1 q1 → Composes files context p2 q2 → Composes files context w (composed_by by q1 q2)) → Made p1 more2 first old mid → Made p2 more second mid then → cell_made (cell.joined by first second) then ≡ made i new → Made w more i old new
  between p1 p2 w more more2 by first second i old mid then new composes one two is =
      let c : Cell = cell.joined by first second in
      let further : Grows then.cells (then.cells ++ c ∷ []) = one_more then.cells c in
      subst (λ n. Made w more i old n) (ap (now_or then) is) (subst (λ j. Made w more j old (record { cells = then.cells ++ c ∷ []; pieces = then.pieces })) (ap (value_or i) is) (record {
        whole = composed_by by one.whole two.whole;
        composes = composes one.whole two.whole one.composes two.composes;
        denotes = is_joined by (last_cell then.cells c) (denotes_on further (denotes_on two.grows one.denotes)) (denotes_on further two.denotes);
        grows = grows_on one.grows (grows_on two.grows further);
        left = supplies_on further two.left;
      }))

  -- what stands for something else
  type_from : (type : TypeName) (params : List Param) (q : Composed) → Composes files context written.not_allowed q → Composes files context (written.typed type params) (composed.typed type params q)
  type_from type params q by_not_allowed = by_type

  mixed_from : (p : WrittenPattern) (q1 q2 : Composed) → Composes files context written.any_text q1 → Composes files context p q2 → Composes files context (written.mixed p) (composed.interleave q1 q2)
  mixed_from p q1 q2 by_text composes = by_mixed composes

  optional_from : (p : WrittenPattern) (q1 q2 : Composed) → Composes files context p q1 → Composes files context written.empty q2 → Composes files context (written.optional p) (composed.choice q1 q2)
  optional_from p q1 q2 composes by_empty = by_optional composes

  zero_or_more_from : (p : WrittenPattern) (q1 q2 : Composed) → Composes files context (written.one_or_more p) q1 → Composes files context written.empty q2 → Composes files context (written.zero_or_more p) (composed.choice q1 q2)
  zero_or_more_from p q1 q2 (by_one_or_more composes) by_empty = by_zero_or_more composes

  pub file_from : (inner : Context) (surface : WrittenSurface) (items : WrittenItems) (all : Clauses) → grammar_items surface ≡ Some items → Gathers files inner items all → ComposesFile files inner surface (composed.grammar all)
  file_from inner (written.a_grammar its) items all is gathers = file_of_grammar (subst (λ x. Gathers files inner x all) (let same : items ≡ its = cc in same) gathers)
  file_from inner (written.a_pattern (written.grammar its)) items all is gathers = file_of_pattern (by_grammar (subst (λ x. Gathers files inner x all) (let same : items ≡ its = cc in same) gathers))
  file_from inner (written.a_pattern p) items all is gathers = let never : ⊥ = cc in absurd never

  -- the next piece in the place of a reference
  external_is : (reference : FileReference) (more : List Mention) (i : ℕ) (cells : List Cell) (pieces : List FilePiece) (new : Stock) → Supplies files number context cells (an_external reference ∷ more) pieces → (next_piece cells pieces >>= as_pattern) ≡ made i new → Made (written.external reference) more i (record { cells = cells; pieces = pieces }) new
  external_is reference more i cells pieces new (one_further {pieces = rest} (a_pattern_piece {root = root} {q = q} opens items composes denotes) left) is =
      let old : Stock = record { cells = cells; pieces = of_pattern root ∷ rest } in
      let after : Stock = record { cells = cells; pieces = rest } in
      subst (λ n. Made (written.external reference) more i old n) (ap (now_or after) is) (subst (λ j. Made (written.external reference) more j old after) (ap (value_or i) is) (record {
        whole = q;
        composes = by_external opens composes;
        denotes = denotes;
        grows = grows_not cells;
        left = left;
      }))
  external_is reference more i cells pieces new (one_further {pieces = rest} (a_grammar_piece {inner = inner} {surface = surface} {items = items} {clauses = clauses} {all = all} opens is_grammar_file gathers denotes) left) is =
      let old : Stock = record { cells = cells; pieces = of_grammar clauses ∷ rest } in
      let further : Grows cells (cells ++ cell.grammar clauses ∷ []) = one_more cells (cell.grammar clauses) in
      let after : Stock = record { cells = cells ++ cell.grammar clauses ∷ []; pieces = rest } in
      subst (λ n. Made (written.external reference) more i old n) (ap (now_or after) is) (subst (λ j. Made (written.external reference) more j old after) (ap (value_or i) is) (record {
        whole = composed.grammar all;
        composes = by_external opens (file_from inner surface items all is_grammar_file gathers);
        denotes = is_grammar (last_cell cells (cell.grammar clauses)) (denote_all_on further denotes);
        grows = further;
        left = supplies_on further left;
      }))

  -- ---- what is made of items

  -- these definitions stand for those clauses; what is left of the pieces is for what is mentioned behind
  pub record Denoted (all : Clauses) (more : List Mention) (clauses : List Clause) (old new : Stock) : Type 0 where
    pub denotes : DenoteAll new.cells number clauses all
    pub grows : Grows old.cells new.cells
    pub left : Supplies files number context new.cells more new.pieces

  pub record DefineMade (name : Defined) (combine : Combine) (p : WrittenPattern) (more : List Mention) (clauses : List Clause) (old new : Stock) : Type 0 where
    pub whole : Composed
    pub composes : Composes files context p whole
    pub part : Denoted (clause_then name combine whole end_of_clauses) more clauses old new

  pub record ItemsMade (items : WrittenItems) (more : List Mention) (clauses : List Clause) (old new : Stock) : Type 0 where
    pub all : Clauses
    pub gathers : Gathers files context items all
    pub part : Denoted all more clauses old new

  pub record AnewMade (replacements : WrittenReplacements) (more : List Mention) (clauses : List Clause) (old new : Stock) : Type 0 where
    pub all : Clauses
    pub gathers : GathersAnew files context replacements all
    pub part : Denoted all more clauses old new

  denoted_at : (all : Clauses) (more : List Mention) (first clauses : List Clause) (old mid new : Stock) → made first mid ≡ made clauses new → Denoted all more first old mid → Denoted all more clauses old new
  denoted_at all more first clauses old mid new is part =
      subst (λ n. Denoted all more clauses old n) (ap (now_or mid) is) (subst (λ cs. Denoted all more cs old mid) (ap (value_or first) is) part)

  -- definitions and those behind them
  then_denoted : (a b : Clauses) (more2 more : List Mention) (first second : List Clause) (old mid new : Stock) → Denoted a more2 first old mid → Denoted b more second mid new → Denoted (then_clauses a b) more (first ++ second) old new
  then_denoted a b more2 more first second old mid new one two = record {
    denotes = both_denoted (denote_all_on two.grows one.denotes) two.denotes;
    grows = grows_on one.grows two.grows;
    left = two.left;
  }

  define_made : (name : Defined) (combine : Combine) (p : WrittenPattern) (more : List Mention) (clauses : List Clause) (i : ℕ) (old mid new : Stock) → Made p more i old mid → made (record { name = name; combine = combine; body = i } ∷ []) mid ≡ made clauses new → DefineMade name combine p more clauses old new
  define_made name combine p more clauses i old mid new inner is =
      let clause : Clause = record { name = name; combine = combine; body = i } in
      record {
        whole = inner.whole;
        composes = inner.composes;
        part = denoted_at (clause_then name combine inner.whole end_of_clauses) more (clause ∷ []) clauses old mid new is (record { denotes = next_denoted {clause = clause} inner.denotes none_denoted; grows = inner.grows; left = inner.left });
      }

  -- the grammar that is mentioned next
  pub record GrammarMade (reference : FileReference) (more : List Mention) (clauses : List Clause) (old new : Stock) : Type 0 where
    pub inner : Context
    pub surface : WrittenSurface
    pub items : WrittenItems
    pub all : Clauses
    pub opens : Opens files context reference inner surface
    pub items_are : grammar_items surface ≡ Some items
    pub gathers : Gathers files inner items all
    pub part : Denoted all more clauses old new

  grammar_at : (reference : FileReference) (more : List Mention) (first clauses : List Clause) (old mid new : Stock) → made first mid ≡ made clauses new → GrammarMade reference more first old mid → GrammarMade reference more clauses old new
  grammar_at reference more first clauses old mid new is part =
      subst (λ n. GrammarMade reference more clauses old n) (ap (now_or mid) is) (subst (λ cs. GrammarMade reference more cs old mid) (ap (value_or first) is) part)

  pub included_is : (reference : FileReference) (replacements : WrittenReplacements) (more : List Mention) (clauses : List Clause) (cells : List Cell) (pieces : List FilePiece) (new : Stock) → Supplies files number context cells (an_include reference replacements ∷ more) pieces → (next_piece cells pieces >>= as_grammar) ≡ made clauses new → GrammarMade reference more clauses (record { cells = cells; pieces = pieces }) new
  included_is reference anew more clauses cells pieces new (one_further (a_pattern_piece opens items composes denotes) left) is = absurd (subst is_made (sym is) tt)
  included_is reference anew more clauses cells pieces new (one_further {pieces = rest} (a_grammar_piece {inner = inner} {surface = surface} {items = items} {clauses = first} {all = all} opens is_grammar_file gathers denotes) left) is =
      grammar_at reference more first clauses (record { cells = cells; pieces = of_grammar first ∷ rest }) (record { cells = cells; pieces = rest }) new is (record {
        inner = inner;
        surface = surface;
        items = items;
        all = all;
        opens = opens;
        items_are = is_grammar_file;
        gathers = gathers;
        part = record { denotes = denotes; grows = grows_not cells; left = left };
      })

  pub record Replaced (b : Bool) (clauses first : List Clause) (now mid : Stock) : Type 0 where
    pub yes_it_is : b ≡ true
    pub same : made clauses now ≡ made first mid

  replaced_made : (b : Bool) (clauses first : List Clause) (now mid : Stock) → replaced_if b clauses now ≡ made first mid → Replaced b clauses first now mid
  replaced_made true clauses first now mid is = record { yes_it_is = refl; same = is }
  replaced_made false clauses first now mid is = absurd (subst is_made (sym is) tt)

  grammar_made : (items : WrittenItems) (more : List Mention) (i : ℕ) (clauses : List Clause) (old mid new : Stock) → ItemsMade items more clauses old mid → cell_made (cell.grammar clauses) mid ≡ made i new → Made (written.grammar items) more i old new
  grammar_made items more i clauses old mid new inner is =
      let further : Grows mid.cells (mid.cells ++ cell.grammar clauses ∷ []) = one_more mid.cells (cell.grammar clauses) in
      subst (λ n. Made (written.grammar items) more i old n) (ap (now_or mid) is) (subst (λ j. Made (written.grammar items) more j old (record { cells = mid.cells ++ cell.grammar clauses ∷ []; pieces = mid.pieces })) (ap (value_or i) is) (record {
        whole = composed.grammar inner.all;
        composes = by_grammar inner.gathers;
        denotes = is_grammar (last_cell mid.cells (cell.grammar clauses)) (denote_all_on further inner.part.denotes);
        grows = grows_on inner.part.grows further;
        left = supplies_on further inner.part.left;
      }))

  mutual
    pub pattern_is : (p : WrittenPattern) (more : List Mention) (i : ℕ) (old new : Stock) → Supplies files number context old.cells (mentions p ++ more) old.pieces → make context.inherited p old ≡ made i new → Made p more i old new
    pattern_is (written.element class p) more i old new supplied is =
        let b = both (make context.inherited p old) (λ j. cell_made (cell.element (class_in context.inherited class) j)) i new is in
        around p (written.element class p) (λ j q. composed.element (number j) (class_in context.inherited class) q) more (λ j. cell.element (class_in context.inherited class) j) b.value i old b.mid new (λ j q composes. by_element (number j) composes) (λ cells part j q at denotes. is_element at denotes) (pattern_is p more b.value old b.mid supplied b.first) b.second
    pattern_is (written.attribute class p) more i old new supplied is =
        let b = both (make context.inherited p old) (λ j. cell_made (cell.attribute (class_in context.inherited class) j)) i new is in
        around p (written.attribute class p) (λ j q. composed.attribute (class_in context.inherited class) q) more (λ j. cell.attribute (class_in context.inherited class) j) b.value i old b.mid new (λ j q composes. by_attribute composes) (λ cells part j q at denotes. is_attribute at denotes) (pattern_is p more b.value old b.mid supplied b.first) b.second
    pattern_is (written.list p) more i old new supplied is =
        let b = both (make context.inherited p old) (λ j. cell_made (cell.listed j)) i new is in
        around p (written.list p) (λ j q. composed.listed q) more (λ j. cell.listed j) b.value i old b.mid new (λ j q composes. by_list composes) (λ cells part j q at denotes. is_list at denotes) (pattern_is p more b.value old b.mid supplied b.first) b.second
    pattern_is (written.one_or_more p) more i old new supplied is =
        let b = both (make context.inherited p old) (λ j. cell_made (cell.one_or_more j)) i new is in
        around p (written.one_or_more p) (λ j q. composed.one_or_more q) more (λ j. cell.one_or_more j) b.value i old b.mid new (λ j q composes. by_one_or_more composes) (λ cells part j q at denotes. is_one_or_more at denotes) (pattern_is p more b.value old b.mid supplied b.first) b.second
    pattern_is (written.typed_but type params p) more i old new supplied is =
        let b = both (make context.inherited p old) (λ j. cell_made (cell.typed type params j)) i new is in
        around p (written.typed_but type params p) (λ j q. composed.typed type params q) more (λ j. cell.typed type params j) b.value i old b.mid new (λ j q composes. by_type_but composes) (λ cells part j q at denotes. is_type at denotes) (pattern_is p more b.value old b.mid supplied b.first) b.second
    pattern_is (written.typed type params) more i old new supplied is =
        let b = both (cell_made cell.not_allowed old) (λ j. cell_made (cell.typed type params j)) i new is in
        let inner = leaf written.not_allowed (λ j. composed.not_allowed) more cell.not_allowed b.value old b.mid (λ j. by_not_allowed) (λ cells j at. is_not_allowed at) supplied b.first in
        around written.not_allowed (written.typed type params) (λ j q. composed.typed type params q) more (λ j. cell.typed type params j) b.value i old b.mid new (λ j q composes. type_from type params q composes) (λ cells part j q at denotes. is_type at denotes) inner b.second
    pattern_is (written.ref name) more i old new supplied is = leaf (written.ref name) (λ j. composed.ref name) more (cell.ref name) i old new (λ j. by_ref) (λ cells j at. is_ref at) supplied is
    pattern_is (written.parent_ref name) more i old new supplied is = leaf (written.parent_ref name) (λ j. composed.parent_ref name) more (cell.parent_ref name) i old new (λ j. by_parent_ref) (λ cells j at. is_parent_ref at) supplied is
    pattern_is (written.empty) more i old new supplied is = leaf (written.empty) (λ j. composed.empty) more (cell.empty) i old new (λ j. by_empty) (λ cells j at. is_empty at) supplied is
    pattern_is (written.any_text) more i old new supplied is = leaf (written.any_text) (λ j. composed.any_text) more (cell.any_text) i old new (λ j. by_text) (λ cells j at. is_text at) supplied is
    pattern_is (written.not_allowed) more i old new supplied is = leaf (written.not_allowed) (λ j. composed.not_allowed) more (cell.not_allowed) i old new (λ j. by_not_allowed) (λ cells j at. is_not_allowed at) supplied is
    pattern_is (written.value type text) more i old new supplied is = leaf (written.value type text) (λ j. composed.value type text) more (cell.value type text) i old new (λ j. by_value) (λ cells j at. is_value at) supplied is
    pattern_is (written.external reference) more i old new supplied is = external_is reference more i old.cells old.pieces new supplied is
    pattern_is (written.grammar items) more i old new supplied is =
        let b = both (make_items context.inherited items old) (λ clauses. cell_made (cell.grammar clauses)) i new is in
        grammar_made items more i b.value old b.mid new (items_is items more b.value old b.mid supplied b.first) b.second
    pattern_is (written.mixed p) more i old new supplied is =
        let b = both (cell_made cell.any_text old) (λ text then. make context.inherited p then >>= λ j. cell_made (cell.joined sign.Interleave text j)) i new is in
        let c = both (make context.inherited p b.mid) (λ j. cell_made (cell.joined sign.Interleave b.value j)) i new b.second in
        let text = leaf written.any_text (λ j. composed.any_text) (mentions p ++ more) cell.any_text b.value old b.mid (λ j. by_text) (λ cells j at. is_text at) supplied b.first in
        between written.any_text p (written.mixed p) more (mentions p ++ more) sign.Interleave b.value c.value i old b.mid c.mid new (λ q1 q2 one two. mixed_from p q1 q2 one two) text (pattern_is p more c.value b.mid c.mid text.left c.first) c.second
    pattern_is (written.optional p) more i old new supplied is =
        let b = both (make context.inherited p old) or_empty_made i new is in
        let c = both (cell_made cell.empty b.mid) (λ e. cell_made (cell.joined sign.Choice b.value e)) i new b.second in
        let one = pattern_is p more b.value old b.mid supplied b.first in
        let two = leaf written.empty (λ j. composed.empty) more cell.empty c.value b.mid c.mid (λ j. by_empty) (λ cells j at. is_empty at) one.left c.first in
        between p written.empty (written.optional p) more more sign.Choice b.value c.value i old b.mid c.mid new (λ q1 q2 first second. optional_from p q1 q2 first second) one two c.second
    pattern_is (written.zero_or_more p) more i old new supplied is =
        let a = both (make context.inherited p old) (λ j then. cell_made (cell.one_or_more j) then >>= or_empty_made) i new is in
        let b = both (cell_made (cell.one_or_more a.value) a.mid) or_empty_made i new a.second in
        let c = both (cell_made cell.empty b.mid) (λ e. cell_made (cell.joined sign.Choice b.value e)) i new b.second in
        let one = around p (written.one_or_more p) (λ j q. composed.one_or_more q) more (λ j. cell.one_or_more j) a.value b.value old a.mid b.mid (λ j q composes. by_one_or_more composes) (λ cells part j q at denotes. is_one_or_more at denotes) (pattern_is p more a.value old a.mid supplied a.first) b.first in
        let two = leaf written.empty (λ j. composed.empty) more cell.empty c.value b.mid c.mid (λ j. by_empty) (λ cells j at. is_empty at) one.left c.first in
        between (written.one_or_more p) written.empty (written.zero_or_more p) more more sign.Choice b.value c.value i old b.mid c.mid new (λ q1 q2 first second. zero_or_more_from p q1 q2 first second) one two c.second
    pattern_is (written.choice p q) more i old new supplied is =
        let b = both (make context.inherited p old) (λ j then. make context.inherited q then >>= λ k. cell_made (cell.joined sign.Choice j k)) i new is in
        let c = both (make context.inherited q b.mid) (λ k. cell_made (cell.joined sign.Choice b.value k)) i new b.second in
        let one = pattern_is p (mentions q ++ more) b.value old b.mid (subst (λ ms. Supplies files number context old.cells ms old.pieces) (append_assoc (mentions p) (mentions q) more) supplied) b.first in
        between p q (written.choice p q) more (mentions q ++ more) sign.Choice b.value c.value i old b.mid c.mid new (λ q1 q2 first second. by_choice first second) one (pattern_is q more c.value b.mid c.mid one.left c.first) c.second
    pattern_is (written.group p q) more i old new supplied is =
        let b = both (make context.inherited p old) (λ j then. make context.inherited q then >>= λ k. cell_made (cell.joined sign.Group j k)) i new is in
        let c = both (make context.inherited q b.mid) (λ k. cell_made (cell.joined sign.Group b.value k)) i new b.second in
        let one = pattern_is p (mentions q ++ more) b.value old b.mid (subst (λ ms. Supplies files number context old.cells ms old.pieces) (append_assoc (mentions p) (mentions q) more) supplied) b.first in
        between p q (written.group p q) more (mentions q ++ more) sign.Group b.value c.value i old b.mid c.mid new (λ q1 q2 first second. by_group first second) one (pattern_is q more c.value b.mid c.mid one.left c.first) c.second
    pattern_is (written.interleave p q) more i old new supplied is =
        let b = both (make context.inherited p old) (λ j then. make context.inherited q then >>= λ k. cell_made (cell.joined sign.Interleave j k)) i new is in
        let c = both (make context.inherited q b.mid) (λ k. cell_made (cell.joined sign.Interleave b.value k)) i new b.second in
        let one = pattern_is p (mentions q ++ more) b.value old b.mid (subst (λ ms. Supplies files number context old.cells ms old.pieces) (append_assoc (mentions p) (mentions q) more) supplied) b.first in
        between p q (written.interleave p q) more (mentions q ++ more) sign.Interleave b.value c.value i old b.mid c.mid new (λ q1 q2 first second. by_interleave first second) one (pattern_is q more c.value b.mid c.mid one.left c.first) c.second

    pub items_is : (items : WrittenItems) (more : List Mention) (clauses : List Clause) (old new : Stock) → Supplies files number context old.cells (mentions_of_items items ++ more) old.pieces → make_items context.inherited items old ≡ made clauses new → ItemsMade items more clauses old new
    items_is written.no_items more clauses old new supplied is = record { all = end_of_clauses; gathers = no_item; part = denoted_at end_of_clauses more [] clauses old old new is (record { denotes = none_denoted; grows = grows_not old.cells; left = supplied }) }
    items_is (written.item_then (written.define name combine p) items) more clauses old new supplied is =
        let b = both (make_item context.inherited (written.define name combine p) old) (λ first then. make_items context.inherited items then >>= λ second. made (first ++ second)) clauses new is in
        let c = both (make_items context.inherited items b.mid) (λ second. made (b.value ++ second)) clauses new b.second in
        let a = both (make context.inherited p old) (λ i. made (record { name = name; combine = combine; body = i } ∷ [])) b.value b.mid b.first in
        let one = define_made name combine p (mentions_of_items items ++ more) b.value a.value old a.mid b.mid (pattern_is p (mentions_of_items items ++ more) a.value old a.mid (subst (λ ms. Supplies files number context old.cells ms old.pieces) (append_assoc (mentions p) (mentions_of_items items) more) supplied) a.first) a.second in
        let two = items_is items more c.value b.mid c.mid one.part.left c.first in
        record {
          all = clause_then name combine one.whole two.all;
          gathers = definition one.composes two.gathers;
          part = denoted_at (clause_then name combine one.whole two.all) more (b.value ++ c.value) clauses old c.mid new c.second (then_denoted (clause_then name combine one.whole end_of_clauses) two.all (mentions_of_items items ++ more) more b.value c.value old b.mid c.mid one.part two.part);
        }
    items_is (written.item_then (written.div inside) items) more clauses old new supplied is =
        let b = both (make_items context.inherited inside old) (λ first then. make_items context.inherited items then >>= λ second. made (first ++ second)) clauses new is in
        let c = both (make_items context.inherited items b.mid) (λ second. made (b.value ++ second)) clauses new b.second in
        let one = items_is inside (mentions_of_items items ++ more) b.value old b.mid (subst (λ ms. Supplies files number context old.cells ms old.pieces) (append_assoc (mentions_of_items inside) (mentions_of_items items) more) supplied) b.first in
        let two = items_is items more c.value b.mid c.mid one.part.left c.first in
        record {
          all = then_clauses one.all two.all;
          gathers = division one.gathers two.gathers refl;
          part = denoted_at (then_clauses one.all two.all) more (b.value ++ c.value) clauses old c.mid new c.second (then_denoted one.all two.all (mentions_of_items items ++ more) more b.value c.value old b.mid c.mid one.part two.part);
        }
    items_is (written.item_then (written.include reference replacements) items) more clauses old new supplied is =
        let b = both (make_item context.inherited (written.include reference replacements) old) (λ first then. make_items context.inherited items then >>= λ second. made (first ++ second)) clauses new is in
        let c = both (make_items context.inherited items b.mid) (λ second. made (b.value ++ second)) clauses new b.second in
        let d = both (next_grammar old) (λ before then. make_anew context.inherited replacements then >>= λ anew. replaced_if (defines_all before anew) (with_new before anew)) b.value b.mid b.first in
        let e = both (make_anew context.inherited replacements d.mid) (λ anew. replaced_if (defines_all d.value anew) (with_new d.value anew)) b.value b.mid d.second in
        let r = replaced_made (defines_all d.value e.value) (with_new d.value e.value) b.value e.mid b.mid e.second in
        let file = included_is reference replacements (mentions_anew replacements ++ (mentions_of_items items ++ more)) d.value old.cells old.pieces d.mid (subst (λ ms. Supplies files number context old.cells (an_include reference replacements ∷ ms) old.pieces) (append_assoc (mentions_anew replacements) (mentions_of_items items) more) supplied) d.first in
        let anew = anew_is replacements (mentions_of_items items ++ more) e.value d.mid e.mid file.part.left e.first in
        let olds : DenoteAll e.mid.cells number d.value file.all = denote_all_on anew.part.grows file.part.denotes in
        let one = denoted_at (then_clauses (but_for anew.all file.all) anew.all) (mentions_of_items items ++ more) (with_new d.value e.value) b.value old e.mid b.mid r.same (record { denotes = replaced_alike olds anew.part.denotes; grows = grows_on file.part.grows anew.part.grows; left = anew.part.left }) in
        let two = items_is items more c.value b.mid c.mid one.left c.first in
        record {
          all = then_clauses (but_for anew.all file.all) (then_clauses anew.all two.all);
          gathers = inclusion file.opens file.items_are file.gathers anew.gathers (each_defined olds anew.part.denotes r.yes_it_is) two.gathers refl;
          part = denoted_at (then_clauses (but_for anew.all file.all) (then_clauses anew.all two.all)) more (b.value ++ c.value) clauses old c.mid new c.second (subst (λ all. Denoted all more (b.value ++ c.value) old c.mid) (then_again_clauses (but_for anew.all file.all) anew.all two.all) (then_denoted (then_clauses (but_for anew.all file.all) anew.all) two.all (mentions_of_items items ++ more) more b.value c.value old b.mid c.mid one two.part));
        }

    pub anew_is : (replacements : WrittenReplacements) (more : List Mention) (clauses : List Clause) (old new : Stock) → Supplies files number context old.cells (mentions_anew replacements ++ more) old.pieces → make_anew context.inherited replacements old ≡ made clauses new → AnewMade replacements more clauses old new
    anew_is written.no_replacements more clauses old new supplied is = record { all = end_of_clauses; gathers = none_anew; part = denoted_at end_of_clauses more [] clauses old old new is (record { denotes = none_denoted; grows = grows_not old.cells; left = supplied }) }
    anew_is (written.replacement_then (written.define_anew name combine p) replacements) more clauses old new supplied is =
        let b = both (make_replacement context.inherited (written.define_anew name combine p) old) (λ first then. make_anew context.inherited replacements then >>= λ second. made (first ++ second)) clauses new is in
        let c = both (make_anew context.inherited replacements b.mid) (λ second. made (b.value ++ second)) clauses new b.second in
        let a = both (make context.inherited p old) (λ i. made (record { name = name; combine = combine; body = i } ∷ [])) b.value b.mid b.first in
        let one = define_made name combine p (mentions_anew replacements ++ more) b.value a.value old a.mid b.mid (pattern_is p (mentions_anew replacements ++ more) a.value old a.mid (subst (λ ms. Supplies files number context old.cells ms old.pieces) (append_assoc (mentions p) (mentions_anew replacements) more) supplied) a.first) a.second in
        let two = anew_is replacements more c.value b.mid c.mid one.part.left c.first in
        record {
          all = clause_then name combine one.whole two.all;
          gathers = definition_anew one.composes two.gathers;
          part = denoted_at (clause_then name combine one.whole two.all) more (b.value ++ c.value) clauses old c.mid new c.second (then_denoted (clause_then name combine one.whole end_of_clauses) two.all (mentions_anew replacements ++ more) more b.value c.value old b.mid c.mid one.part two.part);
        }
    anew_is (written.replacement_then (written.div_anew inside) replacements) more clauses old new supplied is =
        let b = both (make_anew context.inherited inside old) (λ first then. make_anew context.inherited replacements then >>= λ second. made (first ++ second)) clauses new is in
        let c = both (make_anew context.inherited replacements b.mid) (λ second. made (b.value ++ second)) clauses new b.second in
        let one = anew_is inside (mentions_anew replacements ++ more) b.value old b.mid (subst (λ ms. Supplies files number context old.cells ms old.pieces) (append_assoc (mentions_anew inside) (mentions_anew replacements) more) supplied) b.first in
        let two = anew_is replacements more c.value b.mid c.mid one.part.left c.first in
        record {
          all = then_clauses one.all two.all;
          gathers = division_anew one.gathers two.gathers refl;
          part = denoted_at (then_clauses one.all two.all) more (b.value ++ c.value) clauses old c.mid new c.second (then_denoted one.all two.all (mentions_anew replacements ++ more) more b.value c.value old b.mid c.mid one.part two.part);
        }

pub patterns_are_composed : PatternsAreComposed
patterns_are_composed files number context p more i old new supplied is = pattern_is files number context p more i old new supplied is
