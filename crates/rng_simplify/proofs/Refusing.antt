-- Why composing makes nothing of files.
use Rattle.std.proofs.Common.{◌≡◌, refl, sym, ap, ◌∙◌, subst, ℕ, suc, Bool, true, false, List, [], ◌∷◌, ◌++◌, length, Some, None, arith, ◌⊎◌, inl, inr}
use Rattle.std.specs.Prelude.{Contains, reverse, ◌&&◌}
use Rattle.std.specs.List.{AllByRecursion}
use Rattle.std.proofs.lemmas.List.{append_assoc, append-nil, reverse-reverse}
use Rattle.std.proofs.lemmas.List.Elements.{Contains-append_left, Contains-append_right}
use Rattle.nx_base.specs.declared.cause.Cause.{Cause}
use Rattle.nx_base.specs.declared.cause.Cause.TheVariants as cause
use Rattle.nx_host.specs.Files.{FileMap}
use Rattle.rnc_parse.specs.declared.surface.Defined.{Defined}
use Rattle.rnc_parse.specs.declared.surface.FileReference.{FileReference}
use Rattle.rnc_parse.specs.Views.{surface_of}
use Rattle.rnc_parse.specs.Written.{WrittenPattern, WrittenItem, WrittenItems, WrittenReplacement, WrittenReplacements, WrittenSurface}
use Rattle.rnc_parse.specs.Written as written
use Rattle.rng_simplify.specs.declared.load.Loaded.{Loaded}
use Rattle.rng_simplify.specs.declared.node.Clause.{Clause}
use Rattle.rng_simplify.specs.declared.node.Sign.TheVariants as sign
use Rattle.rng_simplify.specs.Broken.{IsBroken}
use Rattle.rng_simplify.specs.Classes.{class_in}
use Rattle.rng_simplify.specs.Cells.{Cell}
use Rattle.rng_simplify.specs.Cells as cell
use Rattle.rng_simplify.specs.Composed.{Clauses, end_of_clauses, clause_then, then_clauses, names_of, defines}
use Rattle.rng_simplify.specs.ComposedFiles.{Context, top, Says, Opens, grammar_items, Gathers, GathersAnew, none_anew, definition_anew, division_anew}
use Rattle.rng_simplify.specs.Composition.{RefusedIsBroken}
use Rattle.rng_simplify.specs.CellMeanings.{DenoteAll, none_denoted, next_denoted}
use Rattle.rng_simplify.specs.LoadedFiles.{Waiting, waiting_in, AreRead, all_read, one_read, AreLoaded, AllLoaded}
use Rattle.rng_simplify.specs.MadeCells.{Stock, Outcome, made, refused, no_piece, ◌>>=◌, FilePiece, of_pattern, of_grammar, cell_made, or_empty_made, next_piece, as_pattern, as_grammar, next_pattern, next_grammar, make, make_item, make_items, make_replacement, make_anew, replaced_if, defines_all, with_new, is_defined, make_file, lone_made, file_made, files_made, nothing_made, whole_made}
use Rattle.rng_simplify.specs.References.{Mention, an_include, reference_of, mentions, mentions_of, mentions_of_item, mentions_of_items, mentions_of_replacement, mentions_anew, names_anew, Reached, the_first, a_further, Mentions}
use Rattle.rng_simplify.specs.SuppliedPieces.{a_pattern_piece, a_grammar_piece, Supplies, one_further, IsMadeOf}
use Rattle.rng_simplify.proofs.Growing.{one_more, denote_all_on}
use Rattle.rng_simplify.proofs.Made.{supplies_on, pattern_is, items_is, anew_is, ItemsMade, AnewMade, GrammarMade, included_is}
use Rattle.rng_simplify.proofs.OnePiece.{SuppliesAll, supplied_first, walk_made}
use Rattle.rng_simplify.proofs.Replacing.{defined_alike}
use Rattle.rng_simplify.proofs.Walking.{file_last}

-- ---- steps

-- the first step refuses, or the one behind what it made
pub record RefusedBehind {A B : Type 0} (outcome : Outcome A) (more : A → Stock → Outcome B) (why : Cause) : Type 0 where
  pub value : A
  pub mid : Stock
  pub first : outcome ≡ made value mid
  pub second : more value mid ≡ refused why

either_refused : {A B : Type 0} → (outcome : Outcome A) (more : A → Stock → Outcome B) (why : Cause) → (outcome >>= more) ≡ refused why →
    (outcome ≡ refused why) ⊎ RefusedBehind outcome more why
either_refused (made value mid) more why h = inr (record { value = value; mid = mid; first = refl; second = h })
either_refused (refused cause) more why h = inl (let e : cause ≡ why = cc in ap refused e)
either_refused no_piece more why h = let never : ⊥ = cc in absurd never

never_refused : {A : Type 0} → (value : A) (now : Stock) (why : Cause) → made value now ≡ refused why → ⊥
never_refused value now why h = let never : ⊥ = cc in never

-- the first step refuses, where none behind it does
only_first : {A B : Type 0} → (outcome : Outcome A) (more : A → Stock → Outcome B) (why : Cause) →
    ((value : A) (mid : Stock) → more value mid ≡ refused why → ⊥) → (outcome >>= more) ≡ refused why → outcome ≡ refused why
only_first outcome more why never h = at (either_refused outcome more why h)
  where
    at : (outcome ≡ refused why) ⊎ RefusedBehind outcome more why → outcome ≡ refused why
    at (inl first) = first
    at (inr behind) = absurd (never behind.value behind.mid behind.second)

-- ---- definitions that replace nothing

-- one of the new names isn't defined
pub record Undefined (a b : Clauses) : Type 0 where
  pub name : Defined
  pub anew : Contains (names_of b) name
  pub undefined : defines name a ≡ false

module _ {cells : List Cell} {number : ℕ → ℕ} where
  undefined_in : (old : List Clause) (a : Clauses) (new : List Clause) (b : Clauses) → DenoteAll cells number old a →
      DenoteAll cells number new b → defines_all old new ≡ false → Undefined a b
  undefined_in old a new b olds none_denoted h = let never : ⊥ = cc in absurd never
  undefined_in old a new b olds (next_denoted {clause = clause} {more = more} {p = p} {rest = rest} body denotes) h =
      at (is_defined old clause.name) refl h (λ k. undefined_in old a more rest olds denotes k)
    where
      at : (d : Bool) → is_defined old clause.name ≡ d → (d && defines_all old more) ≡ false →
          (defines_all old more ≡ false → Undefined a rest) → Undefined a (clause_then clause.name clause.combine p rest)
      at true e k further =
          let u : Undefined a rest = further k in record {
            name = u.name;
            anew = (suc u.anew.0, omega (arith, u.anew.1), u.anew.2);
            undefined = u.undefined;
          }
      at false e k further =
          record { name = clause.name; anew = (0, omega arith, refl); undefined = sym (defined_alike clause.name olds) ∙ e }

names_apart : (a b : Clauses) → names_of (then_clauses a b) ≡ names_of a ++ names_of b
names_apart end_of_clauses b = refl
names_apart (clause_then name combine p more) b = ap (λ ns. name ∷ ns) (names_apart more b)

-- what is gathered in braces has the names that are defined there
names_gathered : {files : FileMap} → (context : Context) (replacements : WrittenReplacements) (all : Clauses) →
    GathersAnew files context replacements all → names_of all ≡ names_anew replacements
names_gathered context _ all none_anew = refl
names_gathered context _ all (definition_anew {name = name} {replacements = more} {clauses = clauses} composes gathers) =
    ap (λ ns. name ∷ ns) (names_gathered context more clauses gathers)
names_gathered context _ all (division_anew {inside = inside} {replacements = more} {first = first} {clauses = clauses} inner gathers is) =
    ap names_of is ∙ names_apart first clauses ∙ ap (λ ns. ns ++ names_of clauses) (names_gathered context inside first inner)
    ∙ ap (λ ns. names_anew inside ++ ns) (names_gathered context more clauses gathers)

-- ---- what is refused among mentions

pub data RefusedIn (files : FileMap) (context : Context) (all : List Mention) : Cause → Type 0 where
  other_included : {reference : FileReference} {replacements : WrittenReplacements} {inner : Context} {surface : WrittenSurface} →
      Contains all (an_include reference replacements) → Opens files context reference inner surface → grammar_items surface ≡ None →
      RefusedIn files context all cause.NotGrammar
  nothing_replaced : {reference : FileReference} {replacements : WrittenReplacements} {inner : Context} {surface : WrittenSurface}
      {items : WrittenItems} {clauses : Clauses} {name : Defined} → Contains all (an_include reference replacements) →
      Opens files context reference inner surface → grammar_items surface ≡ Some items → Gathers files inner items clauses →
      Contains (names_anew replacements) name → defines name clauses ≡ false → RefusedIn files context all cause.NoDefinition

module _ (files : FileMap) (context : Context) where
  on_left : (xs ys : List Mention) (why : Cause) → RefusedIn files context xs why → RefusedIn files context (xs ++ ys) why
  on_left xs ys why (other_included among opens none) = other_included (Contains-append_left xs ys _ among) opens none
  on_left xs ys why (nothing_replaced among opens some gathers anew undefined) =
      nothing_replaced (Contains-append_left xs ys _ among) opens some gathers anew undefined

  on_right : (xs ys : List Mention) (why : Cause) → RefusedIn files context ys why → RefusedIn files context (xs ++ ys) why
  on_right xs ys why (other_included among opens none) = other_included (Contains-append_right xs ys _ among) opens none
  on_right xs ys why (nothing_replaced among opens some gathers anew undefined) =
      nothing_replaced (Contains-append_right xs ys _ among) opens some gathers anew undefined

cell_never : (c : Cell) (now : Stock) (why : Cause) → cell_made c now ≡ refused why → ⊥
cell_never c now why h = let never : ⊥ = cc in never

or_empty_never : (i : ℕ) (now : Stock) (why : Cause) → or_empty_made i now ≡ refused why → ⊥
or_empty_never i now why h = let never : ⊥ = cc in never

pub next_pattern_never : (cells : List Cell) (pieces : List FilePiece) (why : Cause) →
    (next_piece cells pieces >>= as_pattern) ≡ refused why → ⊥
next_pattern_never cells [] why h = let never : ⊥ = cc in never
next_pattern_never cells (of_pattern root ∷ more) why h = let never : ⊥ = cc in never
next_pattern_never cells (of_grammar clauses ∷ more) why h = let never : ⊥ = cc in never

pub record NotReplaced (b : Bool) (why : Cause) : Type 0 where
  pub not_all : b ≡ false
  pub why_is : cause.NoDefinition ≡ why

not_replaced : (b : Bool) (clauses : List Clause) (now : Stock) (why : Cause) → replaced_if b clauses now ≡ refused why → NotReplaced b why
not_replaced true clauses now why h = let never : ⊥ = cc in absurd never
not_replaced false clauses now why h = record { not_all = refl; why_is = let e : cause.NoDefinition ≡ why = cc in e }

module _ (files : FileMap) (number : ℕ → ℕ) (context : Context) where
  abbrev Supplied : List Mention → Stock → Type 0
  Supplied all now = Supplies files number context now.cells all now.pieces

  supplied_as : (xs ys : List Mention) (now : Stock) → xs ≡ ys → Supplied xs now → Supplied ys now
  supplied_as xs ys now same supplied = subst (λ ms. Supplied ms now) same supplied

  -- what is left behind an item
  after_item : (item : WrittenItem) (more : List Mention) (clauses : List Clause) (old mid : Stock) →
      Supplied (mentions_of_item item ++ more) old → make_item context.inherited item old ≡ made clauses mid → Supplied more mid
  after_item item more clauses old mid supplied is =
      let alone : ItemsMade files number context (written.item_then item written.no_items) more (clauses ++ []) old mid =
      items_is files number context (written.item_then item written.no_items) more (clauses ++ []) old mid
      (supplied_as (mentions_of_item item ++ more) ((mentions_of_item item ++ []) ++ more) old
      (ap (λ ms. ms ++ more) (sym (append-nil (mentions_of_item item)))) supplied)
      (ap (λ outcome. outcome >>= λ first then. make_items context.inherited written.no_items then >>= λ second. made (first ++ second))
      is) in
      alone.part.left

  after_replacement : (replacement : WrittenReplacement) (more : List Mention) (clauses : List Clause) (old mid : Stock) →
      Supplied (mentions_of_replacement replacement ++ more) old → make_replacement context.inherited replacement old ≡ made clauses mid →
      Supplied more mid
  after_replacement replacement more clauses old mid supplied is =
      let alone : AnewMade files number context (written.replacement_then replacement written.no_replacements) more (clauses ++ []) old
      mid =
      anew_is files number context (written.replacement_then replacement written.no_replacements) more (clauses ++ []) old mid
      (supplied_as (mentions_of_replacement replacement ++ more) ((mentions_of_replacement replacement ++ []) ++ more) old
      (ap (λ ms. ms ++ more) (sym (append-nil (mentions_of_replacement replacement)))) supplied)
      (ap (λ outcome. outcome >>= λ first then. make_anew context.inherited written.no_replacements then >>= λ second. made
      (first ++ second)) is) in
      alone.part.left

  -- ---- patterns and items

  abbrev Refused : List Mention → Cause → Type 0
  Refused = RefusedIn files context

  -- one of two things is refused
  one_of_two : {A B : Type 0} → (xs ys : List Mention) (why : Cause) (outcome : Outcome A) (more : A → Stock → Outcome B) →
      (outcome ≡ refused why → Refused xs why) →
      ((value : A) (mid : Stock) → outcome ≡ made value mid → more value mid ≡ refused why → Refused ys why) →
      (outcome >>= more) ≡ refused why → Refused (xs ++ ys) why
  one_of_two xs ys why outcome more first second h = at (either_refused outcome more why h)
    where
      at : (outcome ≡ refused why) ⊎ RefusedBehind outcome more why → Refused (xs ++ ys) why
      at (inl e) = on_left files context xs ys why (first e)
      at (inr b) = on_right files context xs ys why (second b.value b.mid b.first b.second)

  grammar_refused : (reference : FileReference) (replacements : WrittenReplacements) (more : List Mention) (why : Cause) (cells : List Cell)
      (pieces : List FilePiece) → Supplies files number context cells (an_include reference replacements ∷ more) pieces →
      (next_piece cells pieces >>= as_grammar) ≡ refused why → Refused (an_include reference replacements ∷ []) why
  grammar_refused reference replacements more why cells pieces (one_further (a_pattern_piece opens none composes denotes) left) is =
      subst (λ w. Refused (an_include reference replacements ∷ []) w) (let e : cause.NotGrammar ≡ why = cc in e)
      (other_included (0, omega arith, refl) opens none)
  grammar_refused reference _ more why cells pieces (one_further (a_grammar_piece opens some gathers denotes) left) is =
      let never : ⊥ = cc in absurd never

  replaced_refused : (reference : FileReference) (replacements : WrittenReplacements) (more : List Mention) (why : Cause)
      (old mid new : Stock) (before anew : List Clause) → GrammarMade files number context reference (mentions_anew replacements ++ more)
      before old mid → make_anew context.inherited replacements mid ≡ made anew new →
      replaced_if (defines_all before anew) (with_new before anew) new ≡ refused why → Refused (an_include reference replacements ∷ []) why
  replaced_refused reference replacements more why old mid new before anew file made_anew is =
      let not_all : NotReplaced (defines_all before anew) why = not_replaced (defines_all before anew) (with_new before anew) new why is in
      let news : AnewMade files number context replacements more anew mid new =
      anew_is files number context replacements more anew mid new file.part.left made_anew in
      let undefined : Undefined file.all news.all =
      undefined_in before file.all anew news.all (denote_all_on news.part.grows file.part.denotes) news.part.denotes not_all.not_all in
      subst (λ w. Refused (an_include reference replacements ∷ []) w) not_all.why_is
      (nothing_replaced (0, omega arith, refl) file.opens file.items_are file.gathers
      (subst (λ ns. Contains ns undefined.name) (names_gathered context replacements news.all news.gathers) undefined.anew)
      undefined.undefined)

  -- an include is refused: for its file, for a name that the file doesn't define, or for what is in its braces
  include_refused : (reference : FileReference) (replacements : WrittenReplacements) (more : List Mention) (why : Cause) (old : Stock) →
      Supplied (an_include reference replacements ∷ (mentions_anew replacements ++ more)) old →
      ((mid : Stock) → Supplied (mentions_anew replacements ++ more) mid → make_anew context.inherited replacements mid ≡ refused why →
      Refused (mentions_anew replacements) why) → make_item context.inherited (written.include reference replacements) old ≡ refused why →
      Refused (an_include reference replacements ∷ mentions_anew replacements) why
  include_refused reference replacements more why old supplied inside is =
      at (either_refused (next_grammar old) (λ before then. make_anew context.inherited replacements then >>= λ anew. replaced_if
      (defines_all before anew) (with_new before anew)) why is)
    where
      here_or : Refused (an_include reference replacements ∷ []) why →
          Refused (an_include reference replacements ∷ mentions_anew replacements) why
      here_or r = on_left files context (an_include reference replacements ∷ []) (mentions_anew replacements) why r

      at_braces : (before : List Clause) (mid : Stock) → GrammarMade files number context reference (mentions_anew replacements ++ more)
          before old mid → (make_anew context.inherited replacements mid ≡ refused why) ⊎ RefusedBehind
          (make_anew context.inherited replacements mid) (λ anew. replaced_if (defines_all before anew) (with_new before anew)) why →
          Refused (an_include reference replacements ∷ mentions_anew replacements) why
      at_braces before mid file (inl h) =
          on_right files context (an_include reference replacements ∷ []) (mentions_anew replacements) why (inside mid file.part.left h)
      at_braces before mid file (inr b) =
          here_or (replaced_refused reference replacements more why old mid b.mid before b.value file b.first b.second)

      at : (next_grammar old ≡ refused why) ⊎ RefusedBehind (next_grammar old)
          (λ before then. make_anew context.inherited replacements then >>= λ anew. replaced_if (defines_all before anew)
          (with_new before anew)) why → Refused (an_include reference replacements ∷ mentions_anew replacements) why
      at (inl h) = here_or (grammar_refused reference replacements (mentions_anew replacements ++ more) why old.cells old.pieces supplied h)
      at (inr b) =
          at_braces b.value b.mid (included_is files number context reference replacements (mentions_anew replacements ++ more) b.value
          old.cells old.pieces b.mid supplied b.first)
          (either_refused (make_anew context.inherited replacements b.mid)
          (λ anew. replaced_if (defines_all b.value anew) (with_new b.value anew)) why b.second)

  mutual
    pattern_refused : (p : WrittenPattern) (more : List Mention) (why : Cause) (old : Stock) → Supplied (mentions p ++ more) old →
        make context.inherited p old ≡ refused why → Refused (mentions p) why
    pattern_refused (written.element class p) more why old supplied is =
        pattern_refused p more why old supplied
        (only_first (make context.inherited p old) (λ i. cell_made (cell.element (class_in context.inherited class) i)) why
        (λ i mid h. cell_never (cell.element (class_in context.inherited class) i) mid why h) is)
    pattern_refused (written.attribute class p) more why old supplied is =
        pattern_refused p more why old supplied
        (only_first (make context.inherited p old) (λ i. cell_made (cell.attribute (class_in context.inherited class) i)) why
        (λ i mid h. cell_never (cell.attribute (class_in context.inherited class) i) mid why h) is)
    pattern_refused (written.list p) more why old supplied is =
        pattern_refused p more why old supplied (only_first (make context.inherited p old) (λ i. cell_made (cell.listed i)) why
        (λ i mid h. cell_never (cell.listed i) mid why h) is)
    pattern_refused (written.one_or_more p) more why old supplied is =
        pattern_refused p more why old supplied (only_first (make context.inherited p old) (λ i. cell_made (cell.one_or_more i)) why
        (λ i mid h. cell_never (cell.one_or_more i) mid why h) is)
    pattern_refused (written.typed_but type params p) more why old supplied is =
        pattern_refused p more why old supplied (only_first (make context.inherited p old) (λ i. cell_made (cell.typed type params i)) why
        (λ i mid h. cell_never (cell.typed type params i) mid why h) is)
    pattern_refused (written.optional p) more why old supplied is =
        pattern_refused p more why old supplied (only_first (make context.inherited p old) or_empty_made why
        (λ i mid h. or_empty_never i mid why h) is)
    pattern_refused (written.zero_or_more p) more why old supplied is =
        pattern_refused p more why old supplied
        (only_first (make context.inherited p old) (λ i then. cell_made (cell.one_or_more i) then >>= or_empty_made) why
        (λ i mid h. or_empty_never (length mid.cells) (record { cells = mid.cells ++ cell.one_or_more i ∷ []; pieces = mid.pieces }) why
        h) is)
    pattern_refused (written.mixed p) more why old supplied is =
        let mid : Stock = record { cells = old.cells ++ cell.any_text ∷ []; pieces = old.pieces } in
        pattern_refused p more why mid (supplies_on (one_more old.cells cell.any_text) supplied)
        (only_first (make context.inherited p mid) (λ i. cell_made (cell.joined sign.Interleave (length old.cells) i)) why
        (λ i then h. cell_never (cell.joined sign.Interleave (length old.cells) i) then why h) is)
    pattern_refused (written.ref name) more why old supplied is = absurd (cell_never (cell.ref name) old why is)
    pattern_refused (written.parent_ref name) more why old supplied is = absurd (cell_never (cell.parent_ref name) old why is)
    pattern_refused written.empty more why old supplied is = absurd (cell_never cell.empty old why is)
    pattern_refused written.any_text more why old supplied is = absurd (cell_never cell.any_text old why is)
    pattern_refused written.not_allowed more why old supplied is = absurd (cell_never cell.not_allowed old why is)
    pattern_refused (written.value type text) more why old supplied is = absurd (cell_never (cell.value type text) old why is)
    pattern_refused (written.typed type params) more why old supplied is =
        absurd (cell_never (cell.typed type params (length old.cells))
        (record { cells = old.cells ++ cell.not_allowed ∷ []; pieces = old.pieces }) why is)
    pattern_refused (written.external reference) more why old supplied is = absurd (next_pattern_never old.cells old.pieces why is)
    pattern_refused (written.grammar items) more why old supplied is =
        items_refused items more why old supplied (only_first (make_items context.inherited items old)
        (λ clauses. cell_made (cell.grammar clauses)) why (λ clauses mid h. cell_never (cell.grammar clauses) mid why h) is)
    pattern_refused (written.choice p q) more why old supplied is =
        let apart : Supplied (mentions p ++ (mentions q ++ more)) old =
        supplied_as ((mentions p ++ mentions q) ++ more) (mentions p ++ (mentions q ++ more)) old
        (append_assoc (mentions p) (mentions q) more) supplied in
        one_of_two (mentions p) (mentions q) why (make context.inherited p old) (λ i then. make context.inherited q then >>= λ j. cell_made
        (cell.joined sign.Choice i j))
        (λ h. pattern_refused p (mentions q ++ more) why old apart h)
        (λ i mid h k. let one : IsMadeOf files number context p (mentions q ++ more) i old mid = pattern_is files number context p
        (mentions q ++ more) i old mid apart h in
        pattern_refused q more why mid one.left (only_first (make context.inherited q mid) (λ j. cell_made (cell.joined sign.Choice i j))
        why (λ j then n. cell_never (cell.joined sign.Choice i j) then why n) k)) is
    pattern_refused (written.group p q) more why old supplied is =
        let apart : Supplied (mentions p ++ (mentions q ++ more)) old =
        supplied_as ((mentions p ++ mentions q) ++ more) (mentions p ++ (mentions q ++ more)) old
        (append_assoc (mentions p) (mentions q) more) supplied in
        one_of_two (mentions p) (mentions q) why (make context.inherited p old) (λ i then. make context.inherited q then >>= λ j. cell_made
        (cell.joined sign.Group i j))
        (λ h. pattern_refused p (mentions q ++ more) why old apart h)
        (λ i mid h k. let one : IsMadeOf files number context p (mentions q ++ more) i old mid = pattern_is files number context p
        (mentions q ++ more) i old mid apart h in
        pattern_refused q more why mid one.left (only_first (make context.inherited q mid) (λ j. cell_made (cell.joined sign.Group i j)) why
        (λ j then n. cell_never (cell.joined sign.Group i j) then why n) k)) is
    pattern_refused (written.interleave p q) more why old supplied is =
        let apart : Supplied (mentions p ++ (mentions q ++ more)) old =
        supplied_as ((mentions p ++ mentions q) ++ more) (mentions p ++ (mentions q ++ more)) old
        (append_assoc (mentions p) (mentions q) more) supplied in
        one_of_two (mentions p) (mentions q) why (make context.inherited p old) (λ i then. make context.inherited q then >>= λ j. cell_made
        (cell.joined sign.Interleave i j))
        (λ h. pattern_refused p (mentions q ++ more) why old apart h)
        (λ i mid h k. let one : IsMadeOf files number context p (mentions q ++ more) i old mid = pattern_is files number context p
        (mentions q ++ more) i old mid apart h in
        pattern_refused q more why mid one.left
        (only_first (make context.inherited q mid) (λ j. cell_made (cell.joined sign.Interleave i j)) why
        (λ j then n. cell_never (cell.joined sign.Interleave i j) then why n) k)) is

    item_refused : (item : WrittenItem) (more : List Mention) (why : Cause) (old : Stock) → Supplied (mentions_of_item item ++ more) old →
        make_item context.inherited item old ≡ refused why → Refused (mentions_of_item item) why
    item_refused (written.define name combine p) more why old supplied is =
        pattern_refused p more why old supplied
        (only_first (make context.inherited p old) (λ i. made (record { name = name; combine = combine; body = i } ∷ [])) why
        (λ i mid h. never_refused (record { name = name; combine = combine; body = i } ∷ []) mid why h) is)
    item_refused (written.div items) more why old supplied is = items_refused items more why old supplied is
    item_refused (written.include reference replacements) more why old supplied is =
        include_refused reference replacements more why old supplied (λ mid left h. anew_refused replacements more why mid left h) is

    items_refused : (items : WrittenItems) (more : List Mention) (why : Cause) (old : Stock) →
        Supplied (mentions_of_items items ++ more) old → make_items context.inherited items old ≡ refused why →
        Refused (mentions_of_items items) why
    items_refused written.no_items more why old supplied is = absurd (never_refused [] old why is)
    items_refused (written.item_then item items) more why old supplied is =
        let apart : Supplied (mentions_of_item item ++ (mentions_of_items items ++ more)) old =
        supplied_as ((mentions_of_item item ++ mentions_of_items items) ++ more)
        (mentions_of_item item ++ (mentions_of_items items ++ more)) old
        (append_assoc (mentions_of_item item) (mentions_of_items items) more) supplied in
        one_of_two (mentions_of_item item) (mentions_of_items items) why (make_item context.inherited item old)
        (λ first then. make_items context.inherited items then >>= λ second. made (first ++ second))
        (λ h. item_refused item (mentions_of_items items ++ more) why old apart h)
        (λ first mid h k. items_refused items more why mid (after_item item (mentions_of_items items ++ more) first old mid apart h)
        (only_first (make_items context.inherited items mid) (λ second. made (first ++ second)) why
        (λ second then n. never_refused (first ++ second) then why n) k)) is

    replacement_refused : (replacement : WrittenReplacement) (more : List Mention) (why : Cause) (old : Stock) →
        Supplied (mentions_of_replacement replacement ++ more) old → make_replacement context.inherited replacement old ≡ refused why →
        Refused (mentions_of_replacement replacement) why
    replacement_refused (written.define_anew name combine p) more why old supplied is =
        pattern_refused p more why old supplied
        (only_first (make context.inherited p old) (λ i. made (record { name = name; combine = combine; body = i } ∷ [])) why
        (λ i mid h. never_refused (record { name = name; combine = combine; body = i } ∷ []) mid why h) is)
    replacement_refused (written.div_anew replacements) more why old supplied is = anew_refused replacements more why old supplied is

    anew_refused : (replacements : WrittenReplacements) (more : List Mention) (why : Cause) (old : Stock) →
        Supplied (mentions_anew replacements ++ more) old → make_anew context.inherited replacements old ≡ refused why →
        Refused (mentions_anew replacements) why
    anew_refused written.no_replacements more why old supplied is = absurd (never_refused [] old why is)
    anew_refused (written.replacement_then replacement replacements) more why old supplied is =
        let apart : Supplied (mentions_of_replacement replacement ++ (mentions_anew replacements ++ more)) old =
        supplied_as ((mentions_of_replacement replacement ++ mentions_anew replacements) ++ more)
        (mentions_of_replacement replacement ++ (mentions_anew replacements ++ more)) old
        (append_assoc (mentions_of_replacement replacement) (mentions_anew replacements) more) supplied in
        one_of_two (mentions_of_replacement replacement) (mentions_anew replacements) why
        (make_replacement context.inherited replacement old) (λ first then. make_anew context.inherited replacements then >>= λ second.
        made (first ++ second))
        (λ h. replacement_refused replacement (mentions_anew replacements ++ more) why old apart h)
        (λ first mid h k. anew_refused replacements more why mid (after_replacement replacement (mentions_anew replacements ++ more) first
        old mid apart h) (only_first (make_anew context.inherited replacements mid) (λ second. made (first ++ second)) why
        (λ second then n. never_refused (first ++ second) then why n) k)) is

  -- ---- files

  lone_refused : (p : WrittenPattern) (why : Cause) (old : Stock) → Supplied (mentions p) old →
      lone_made context.inherited p old ≡ refused why → Refused (mentions p) why
  lone_refused p why old supplied is =
      pattern_refused p [] why old (supplied_as (mentions p) (mentions p ++ []) old (sym (append-nil (mentions p))) supplied)
      (only_first (make context.inherited p old) (λ root. made (of_pattern root)) why (λ root mid h. never_refused (of_pattern root) mid
      why h) is)

  grammar_file_refused : (items : WrittenItems) (why : Cause) (old : Stock) → Supplied (mentions_of_items items) old →
      (make_items context.inherited items old >>= λ clauses. made (of_grammar clauses)) ≡ refused why →
      Refused (mentions_of_items items) why
  grammar_file_refused items why old supplied is =
      items_refused items [] why old (supplied_as (mentions_of_items items) (mentions_of_items items ++ []) old
      (sym (append-nil (mentions_of_items items))) supplied) (only_first (make_items context.inherited items old)
      (λ clauses. made (of_grammar clauses)) why (λ clauses mid h. never_refused (of_grammar clauses) mid why h) is)

  file_refused : (surface : WrittenSurface) (why : Cause) (old : Stock) → Supplied (mentions_of surface) old →
      make_file context.inherited surface old ≡ refused why → Refused (mentions_of surface) why
  file_refused (written.a_grammar items) why old supplied is = grammar_file_refused items why old supplied is
  file_refused (written.a_pattern (written.grammar items)) why old supplied is = grammar_file_refused items why old supplied is
  file_refused (written.a_pattern p) why old supplied is = lone_refused p why old supplied is

-- ---- files in order

module _ (files : FileMap) (uri : List ℕ) where
  -- what is refused in a file that is reached breaks the schema
  broken_in : (context : Context) (surface : WrittenSurface) (why : Cause) → Reached files uri context → Says files context.uri surface →
      RefusedIn files context (mentions_of surface) why → IsBroken files uri why
  broken_in context surface why reached says (other_included {reference = reference} {replacements = replacements} {inner = inner}
      {surface = other} among opens none) = record {
        context = context;
        reference = reference;
        replacements = replacements;
        mentioned = record { reached = reached; surface = surface; says = says; mentioned = among };
        inner = inner;
        surface = other;
        opens = opens;
        no_grammar = none;
      }
  broken_in context surface why reached says (nothing_replaced {reference = reference} {replacements = replacements} {inner = inner}
      {surface = other} {items = items} {clauses = clauses} {name = name} among opens some gathers anew undefined) = inl (record {
        context = context;
        reference = reference;
        replacements = replacements;
        mentioned = record { reached = reached; surface = surface; says = says; mentioned = among };
        inner = inner;
        surface = other;
        opens = opens;
        items = items;
        items_are = some;
        clauses = clauses;
        gathered = gathers;
        name = name;
        anew = anew;
        undefined = undefined;
      })

  abbrev AllMentioned : List Waiting → Type 0
  AllMentioned waiting = AllByRecursion (λ (w : Waiting). Mentions files uri w.context w.mention) waiting

  all_mentioned : (context : Context) (all : List Mention) (more : List Waiting) →
      ((mention : Mention) → Contains all mention → Mentions files uri context mention) → AllMentioned more →
      AllMentioned (waiting_in context all ++ more)
  all_mentioned context [] more each others = others
  all_mentioned context (m ∷ all) more each others = (
    each m (0, omega arith, refl),
    all_mentioned context all more
        (λ mention among. each mention (suc among.0, omega (arith, among.1), among.2)) others,
  )

  all_in : (context : Context) (surface : WrittenSurface) (more : List Waiting) → Reached files uri context →
      Says files context.uri surface → AllMentioned more → AllMentioned (waiting_in context (mentions_of surface) ++ more)
  all_in context surface more reached says others =
      all_mentioned context (mentions_of surface) more
      (λ mention among. record { reached = reached; surface = surface; says = says; mentioned = among }) others

  -- the file to which a mention leads is reached, and says this
  pub record Inner (context : Context) (surface : WrittenSurface) : Type 0 where
    pub reached : Reached files uri context
    pub says : Says files context.uri surface

  inner_of : (waiting : Waiting) (inner : Context) (surface : WrittenSurface) → Mentions files uri waiting.context waiting.mention →
      Opens files waiting.context (reference_of waiting.mention) inner surface → Inner inner surface
  inner_of waiting inner surface mentioned opens =
      subst (λ c. Inner c surface) (sym opens.inner_is)
      (record {
        reached = a_further mentioned.reached mentioned.says mentioned.mentioned opens.refers opens.no_loop;
        says = opens.says;
      })

  one_refused : (context : Context) (file : Loaded) (more : List Waiting) (why : Cause) (now : Stock) →
      file.inherited ≡ context.inherited → Inner context (surface_of file.surface) →
      SuppliesAll files (λ i. i) now.cells (waiting_in context (mentions_of (surface_of file.surface)) ++ more) now.pieces →
      file_made file now ≡ refused why → IsBroken files uri why
  one_refused context file more why now inherits inner supplied is =
      let surface : WrittenSurface = surface_of file.surface in
      let alone : make_file file.inherited surface now ≡ refused why =
      only_first (make_file file.inherited surface now)
      (λ piece then. made (tt {0}) (record { cells = then.cells; pieces = piece ∷ then.pieces })) why
      (λ piece then h. never_refused (tt {0}) (record { cells = then.cells; pieces = piece ∷ then.pieces }) why h) is in
      broken_in context surface why inner.reached inner.says (file_refused files (λ i. i) context surface why now
      (supplied_first files (λ i. i) now.cells context (mentions_of surface) more now.pieces supplied)
      (subst (λ ns. make_file ns surface now ≡ refused why) inherits alone))

  walk_refused : (waiting : List Waiting) (read : List Loaded) (why : Cause) → AreRead (Some files) waiting read → AllMentioned waiting →
      files_made (reverse read) nothing_made ≡ refused why → IsBroken files uri why
  walk_refused waiting read why all_read mentioned is = absurd (never_refused (tt {0}) nothing_made why is)
  walk_refused waiting read why (one_read {waiting = first} {more = more} {file = file} {files = rest} inner is_read reads) mentioned is =
      let there : Inner inner (surface_of file.surface) = inner_of first inner (surface_of file.surface) mentioned.0 is_read.opens in
      at (either_refused (files_made (reverse rest) nothing_made) (λ done. file_made file) why (sym (file_last file rest) ∙ is)) there
      (λ h. walk_refused (waiting_in inner (mentions_of (surface_of file.surface)) ++ more) rest why reads
      (all_in inner (surface_of file.surface) more there.reached there.says mentioned.1) h)
    where
      at : (files_made (reverse rest) nothing_made ≡ refused why) ⊎ RefusedBehind (files_made (reverse rest) nothing_made)
          (λ done. file_made file) why → Inner inner (surface_of file.surface) →
          (files_made (reverse rest) nothing_made ≡ refused why → IsBroken files uri why) → IsBroken files uri why
      at (inl h) there further = further h
      at (inr b) there further =
          one_refused inner file more why b.mid is_read.inherits there
          (walk_made files (λ i. i) (waiting_in inner (mentions_of (surface_of file.surface)) ++ more) rest b.mid b.value reads b.first)
          b.second

  files_refused : (first : Loaded) (others : List Loaded) (why : Cause) → AreLoaded (Some files) uri first others →
      whole_made (reverse (first ∷ others)) ≡ refused why → IsBroken files uri why
  files_refused first others why loaded is =
      at (either_refused (files_made (reverse others) nothing_made) (λ done. file_made first) why
      (sym (file_last first others) ∙ only_first (files_made (reverse (first ∷ others)) nothing_made) (λ done. next_pattern) why
      (λ done mid h. next_pattern_never mid.cells mid.pieces why h) is))
    where
      there : Inner (top uri) (surface_of first.surface)
      there = record { reached = the_first; says = loaded.says }

      at : (files_made (reverse others) nothing_made ≡ refused why) ⊎ RefusedBehind (files_made (reverse others) nothing_made)
          (λ done. file_made first) why → IsBroken files uri why
      at (inl h) =
          walk_refused (waiting_in (top uri) (mentions_of (surface_of first.surface))) others why loaded.others_read
          (subst AllMentioned (append-nil (waiting_in (top uri) (mentions_of (surface_of first.surface))))
          (all_in (top uri) (surface_of first.surface) [] the_first loaded.says tt)) h
      at (inr b) =
          one_refused (top uri) first [] why b.mid loaded.inherits there
          (subst (λ ws. SuppliesAll files (λ i. i) b.mid.cells ws b.mid.pieces)
          (sym (append-nil (waiting_in (top uri) (mentions_of (surface_of first.surface)))))
          (walk_made files (λ i. i) (waiting_in (top uri) (mentions_of (surface_of first.surface))) others b.mid b.value
          loaded.others_read b.first)) b.second

  all_refused : (loaded : List Loaded) (why : Cause) → AllLoaded (Some files) uri loaded → whole_made (reverse loaded) ≡ refused why →
      IsBroken files uri why
  all_refused [] why loaded is = absurd loaded
  all_refused (first ∷ others) why loaded is = files_refused first others why loaded is

pub refused_is_broken : RefusedIsBroken
refused_is_broken files uri loaded all why is = all_refused files uri (reverse loaded) why all (ap whole_made (reverse-reverse loaded) ∙ is)
