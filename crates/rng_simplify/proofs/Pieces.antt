-- Composing takes one piece for each file that is mentioned, and each node that it makes has one place at most.
use Rattle.std.proofs.Common.{◌≡◌, refl, sym, ap, ◌∙◌, subst, ℕ, suc, ◌+◌, ◌≤◌, Bool, true, false, cond, List, [], ◌∷◌, ◌++◌, length, drop, length-drop, arith}
use Rattle.std.specs.Prelude.{flat_map, filter, not}
use Rattle.std.proofs.lemmas.List.{append_assoc, drop-drop, length-append}
use Rattle.rnc_parse.specs.Written.{WrittenPattern, WrittenItem, WrittenItems, WrittenReplacement, WrittenReplacements, WrittenSurface}
use Rattle.rnc_parse.specs.Written as written
use Rattle.rng_simplify.specs.declared.node.Clause.{Clause}
use Rattle.rng_simplify.specs.declared.node.Sign.{Sign}
use Rattle.rng_simplify.specs.declared.node.Sign.TheVariants as sign
use Rattle.rnc_parse.specs.declared.surface.Defined.{Defined}
use Rattle.rnc_parse.specs.declared.surface.Combine.{Combine}
use Rattle.rng_simplify.specs.Classes.{class_in}
use Rattle.rng_simplify.specs.Cells.{Cell}
use Rattle.rng_simplify.specs.Cells as cell
use Rattle.rng_simplify.specs.MadeCells.{Stock, Outcome, made, refused, no_piece, ◌>>=◌, FilePiece, of_pattern, of_grammar, cell_made, or_empty_made, next_piece, as_pattern, as_grammar, next_pattern, next_grammar, make, make_item, make_items, make_replacement, make_anew, replaced_if, defines_all, with_new, is_defined, make_file, lone_made}
use Rattle.rng_simplify.specs.References.{mentions, mentions_of, mentions_of_item, mentions_of_items, mentions_of_replacement, mentions_anew}
use Rattle.rng_simplify.specs.NodePlaces.{inner_nodes, bodies_of}
use Rattle.rng_simplify.specs.SuppliedPieces.{Grows}
use Rattle.rng_simplify.proofs.Growing.{grows_not, grows_on, one_more}
use Rattle.rng_simplify.proofs.Owning.{count, count-append, piece_nodes, Owns, held_else, cell_owns}

-- what is given for it is held by what is made, and so many pieces are taken
abbrev pub Keeps : {A : Type 0} → List ℕ → (A → List ℕ) → ℕ → Stock → Outcome A → Type 0
Keeps given held need old (made v new) =
    (new.pieces ≡ drop need old.pieces) × Grows old.cells new.cells ×
    ((extra : List ℕ) → Owns old (given ++ extra) → Owns new (held v ++ extra))
Keeps given held need old (refused why) = Unit {0}
Keeps given held need old no_piece = ⊥

-- that is so where there are as many pieces
pub record Runs {A : Type 0} (given : List ℕ) (held : A → List ℕ) (need : ℕ) (old : Stock) (outcome : Outcome A) : Type 0 where
  pub keeps : need ≤ length old.pieces → Keeps given held need old outcome

-- ---- steps

then_keeps : {A B : Type 0} (given : List ℕ) (held : A → List ℕ) (held2 : B → List ℕ) (n m : ℕ) (old mid : Stock) (v : A)
    (outcome : Outcome B) → Keeps given held n old (made v mid) → Keeps (held v) held2 m mid outcome → Keeps given held2 (n + m) old outcome
then_keeps given held held2 n m old mid v (made w new) first second = (
  second.0 ∙ ap (drop m) first.0 ∙ drop-drop m n old.pieces,
  grows_on first.1 second.1,
  λ extra owns. second.2 extra (first.2 extra owns),
)
then_keeps given held held2 n m old mid v (refused why) first second = tt
then_keeps given held held2 n m old mid v no_piece first second = absurd second

pub then_runs : {A B : Type 0} (given : List ℕ) (held : A → List ℕ) (held2 : B → List ℕ) (n m : ℕ) (old : Stock) (outcome : Outcome A)
    (more : A → Stock → Outcome B) → Runs given held n old outcome → ((v : A) (mid : Stock) → Runs (held v) held2 m mid (more v mid)) →
    Runs given held2 (n + m) old (outcome >>= more)
then_runs given held held2 n m old (made v mid) more first second = record {
  keeps = λ enough.
      let a : Keeps given held n old (made v mid) = first.keeps (omega arith) in
      let left : m ≤ length mid.pieces =
      let e : length mid.pieces ≡ length (drop n old.pieces) = ap (λ (ps : List FilePiece). length ps) a.0 in
      omega (arith, e, length-drop n old.pieces) in
      then_keeps given held held2 n m old mid v (more v mid) a ((second v mid).keeps left);
}
then_runs given held held2 n m old (refused why) more first second = record { keeps = λ enough. tt }
then_runs given held held2 n m old no_piece more first second = record { keeps = λ enough. first.keeps (omega arith) }

pub need_is : {A : Type 0} (given : List ℕ) (held : A → List ℕ) (n m : ℕ) (old : Stock) (outcome : Outcome A) → n ≡ m →
    Runs given held n old outcome → Runs given held m old outcome
need_is given held n m old outcome same runs = subst (λ k. Runs given held k old outcome) same runs

-- the last step takes no piece
last_runs : {A B : Type 0} (given : List ℕ) (held : A → List ℕ) (held2 : B → List ℕ) (n : ℕ) (old : Stock) (outcome : Outcome A)
    (more : A → Stock → Outcome B) → Runs given held n old outcome → ((v : A) (mid : Stock) → Runs (held v) held2 0 mid (more v mid)) →
    Runs given held2 n old (outcome >>= more)
last_runs given held held2 n old outcome more first second =
    need_is given held2 (n + 0) n old (outcome >>= more) (omega arith) (then_runs given held held2 n 0 old outcome more first second)

-- the first step takes no piece
first_runs : {A B : Type 0} (given : List ℕ) (held : A → List ℕ) (held2 : B → List ℕ) (n : ℕ) (old : Stock) (outcome : Outcome A)
    (more : A → Stock → Outcome B) → Runs given held 0 old outcome → ((v : A) (mid : Stock) → Runs (held v) held2 n mid (more v mid)) →
    Runs given held2 n old (outcome >>= more)
first_runs given held held2 n old outcome more first second =
    need_is given held2 (0 + n) n old (outcome >>= more) (omega arith) (then_runs given held held2 0 n old outcome more first second)

-- what is given besides is held besides
framed_keeps : {A : Type 0} (besides : List ℕ) (held : A → List ℕ) (need : ℕ) (old : Stock) (outcome : Outcome A) →
    Keeps [] held need old outcome → Keeps besides (λ v. held v ++ besides) need old outcome
framed_keeps besides held need old (made v new) keeps =
    (keeps.0, keeps.1, λ extra owns. subst (Owns new) (sym (append_assoc (held v) besides extra)) (keeps.2 (besides ++ extra) owns))
framed_keeps besides held need old (refused why) keeps = tt
framed_keeps besides held need old no_piece keeps = keeps

pub framed : {A : Type 0} (besides : List ℕ) (held : A → List ℕ) (need : ℕ) (old : Stock) (outcome : Outcome A) →
    Runs [] held need old outcome → Runs besides (λ v. held v ++ besides) need old outcome
framed besides held need old outcome runs = record { keeps = λ enough. framed_keeps besides held need old outcome (runs.keeps enough) }

-- more may be given
given_keeps : {A : Type 0} (less more : List ℕ) (held : A → List ℕ) (need : ℕ) (old : Stock) (outcome : Outcome A) →
    ((i : ℕ) → count i less ≤ count i more) → Keeps less held need old outcome → Keeps more held need old outcome
given_keeps less more held need old (made v new) fewer keeps = (
  keeps.0,
  keeps.1,
  λ extra owns. keeps.2 extra (held_else old old (more ++ extra) (less ++ extra) refl
      (λ i. omega (arith, fewer i, count-append i less extra, count-append i more extra)) owns),
)
given_keeps less more held need old (refused why) fewer keeps = tt
given_keeps less more held need old no_piece fewer keeps = keeps

pub given_more : {A : Type 0} (less more : List ℕ) (held : A → List ℕ) (need : ℕ) (old : Stock) (outcome : Outcome A) →
    ((i : ℕ) → count i less ≤ count i more) → Runs less held need old outcome → Runs more held need old outcome
given_more less more held need old outcome fewer runs =
    record { keeps = λ enough. given_keeps less more held need old outcome fewer (runs.keeps enough) }

-- ---- the least steps

pub made_runs : {A : Type 0} (held : A → List ℕ) (v : A) (now : Stock) → Runs (held v) held 0 now (made v now)
made_runs held v now = record { keeps = λ enough. (refl, grows_not now.cells, λ extra owns. owns) }

abbrev pub one : ℕ → List ℕ
one i = i ∷ []

pub cell_runs : (c : Cell) (now : Stock) → Runs (inner_nodes c) one 0 now (cell_made c now)
cell_runs c now = record { keeps = λ enough. (refl, one_more now.cells c, λ extra owns. cell_owns c now extra owns) }

next_keeps : (cells : List Cell) (pieces : List FilePiece) → 1 ≤ length pieces →
    Keeps [] one 1 (record { cells = cells; pieces = pieces }) (next_piece cells pieces >>= as_pattern)
next_keeps cells [] enough = absurd (omega (arith, enough))
next_keeps cells (of_pattern root ∷ more) enough = (
  refl,
  grows_not cells,
  λ extra owns. held_else (record { cells = cells; pieces = of_pattern root ∷ more }) (record { cells = cells; pieces = more }) extra
      (root ∷ extra) refl (λ i. omega arith) owns,
)
next_keeps cells (of_grammar clauses ∷ more) enough = (
  refl,
  one_more cells (cell.grammar clauses),
  λ extra owns. cell_owns (cell.grammar clauses) (record { cells = cells; pieces = more }) extra
      (held_else (record { cells = cells; pieces = of_grammar clauses ∷ more }) (record { cells = cells; pieces = more }) extra
      (bodies_of clauses ++ extra) refl
      (λ i. omega (arith, count-append i (bodies_of clauses) extra, count-append i (bodies_of clauses) (flat_map piece_nodes more))) owns),
)

pub next_pattern_runs : (now : Stock) → Runs [] one 1 now (next_pattern now)
next_pattern_runs now = record { keeps = next_keeps now.cells now.pieces }

grammar_keeps : (cells : List Cell) (pieces : List FilePiece) → 1 ≤ length pieces →
    Keeps [] bodies_of 1 (record { cells = cells; pieces = pieces }) (next_piece cells pieces >>= as_grammar)
grammar_keeps cells [] enough = absurd (omega (arith, enough))
grammar_keeps cells (of_pattern root ∷ more) enough = tt
grammar_keeps cells (of_grammar clauses ∷ more) enough = (
  refl,
  grows_not cells,
  λ extra owns. held_else (record { cells = cells; pieces = of_grammar clauses ∷ more }) (record { cells = cells; pieces = more }) extra
      (bodies_of clauses ++ extra) refl
      (λ i. omega (arith, count-append i (bodies_of clauses) extra, count-append i (bodies_of clauses) (flat_map piece_nodes more))) owns,
)

next_grammar_runs : (now : Stock) → Runs [] bodies_of 1 now (next_grammar now)
next_grammar_runs now = record { keeps = grammar_keeps now.cells now.pieces }

-- ---- definitions

bodies_apart : (i : ℕ) (xs ys : List Clause) → count i (bodies_of (xs ++ ys)) ≡ count i (bodies_of xs) + count i (bodies_of ys)
bodies_apart i [] ys = omega arith
bodies_apart i (x ∷ xs) ys =
    let more : count i (bodies_of (xs ++ ys)) ≡ count i (bodies_of xs) + count i (bodies_of ys) = bodies_apart i xs ys in omega arith

fewer_if : (i : ℕ) (b : Bool) (x : Clause) (xs kept : List Clause) → count i (bodies_of kept) ≤ count i (bodies_of xs) →
    count i (bodies_of (cond b (x ∷ kept) kept)) ≤ count i (bodies_of (x ∷ xs))
fewer_if i true x xs kept fewer = omega arith
fewer_if i false x xs kept fewer = omega arith

fewer_kept : (i : ℕ) (p : Clause → Bool) (xs : List Clause) → count i (bodies_of (filter p xs)) ≤ count i (bodies_of xs)
fewer_kept i p [] = omega arith
fewer_kept i p (x ∷ xs) = fewer_if i (p x) x xs (filter p xs) (fewer_kept i p xs)

-- definitions behind others
behind_runs : (first more : List Clause) (now : Stock) →
    Runs (bodies_of more ++ bodies_of first) bodies_of 0 now (made (first ++ more) now)
behind_runs first more now =
    given_more (bodies_of (first ++ more)) (bodies_of more ++ bodies_of first) bodies_of 0 now (made (first ++ more) now)
    (λ i. omega (arith, bodies_apart i first more, count-append i (bodies_of more) (bodies_of first)))
    (made_runs bodies_of (first ++ more) now)

replaced_runs : (b : Bool) (old new : List Clause) (now : Stock) →
    Runs (bodies_of new ++ bodies_of old) bodies_of 0 now (replaced_if b (with_new old new) now)
replaced_runs true old new now =
    given_more (bodies_of (with_new old new)) (bodies_of new ++ bodies_of old) bodies_of 0 now (made (with_new old new) now)
    (λ i. omega (
      arith,
      bodies_apart i (filter (λ (c : Clause). not (is_defined new c.name)) old) new,
      fewer_kept i (λ (c : Clause). not (is_defined new c.name)) old,
      count-append i (bodies_of new) (bodies_of old),
    ))
    (made_runs bodies_of (with_new old new) now)
replaced_runs false old new now = record { keeps = λ enough. tt }

-- ---- patterns

module _ (ns : List ℕ) where
  -- one more cell around a part
  around : (p : WrittenPattern) (c : ℕ → Cell) (now : Stock) → ((i : ℕ) → inner_nodes (c i) ≡ one i) →
      Runs [] one (length (mentions p)) now (make ns p now) → Runs [] one (length (mentions p)) now (make ns p now >>= λ i. cell_made (c i))
  around p c now inner runs =
      last_runs [] one one (length (mentions p)) now (make ns p now) (λ i. cell_made (c i)) runs
      (λ i mid. subst (λ given. Runs given one 0 mid (cell_made (c i) mid)) (inner i) (cell_runs (c i) mid))

  -- one more around two
  joined_runs : (by : Sign) (i j : ℕ) (now : Stock) → Runs (j ∷ i ∷ []) one 0 now (cell_made (cell.joined by i j) now)
  joined_runs by i j now =
      given_more (i ∷ j ∷ []) (j ∷ i ∷ []) one 0 now (cell_made (cell.joined by i j) now) (λ x. omega arith)
      (cell_runs (cell.joined by i j) now)

  or_empty_runs : (i : ℕ) (now : Stock) → Runs (one i) one 0 now (or_empty_made i now)
  or_empty_runs i now =
      first_runs (one i) (λ e. one e ++ one i) one 0 now (cell_made cell.empty now) (λ e. cell_made (cell.joined sign.Choice i e))
      (framed (one i) one 0 now (cell_made cell.empty now) (cell_runs cell.empty now)) (λ e mid. joined_runs sign.Choice i e mid)

  -- a pattern and another, joined
  between : (by : Sign) (p q : WrittenPattern) (now : Stock) → Runs [] one (length (mentions p)) now (make ns p now) →
      ((mid : Stock) → Runs [] one (length (mentions q)) mid (make ns q mid)) →
      Runs [] one (length (mentions p ++ mentions q)) now (make ns p now >>= λ i then. make ns q then >>= λ j. cell_made
      (cell.joined by i j))
  between by p q now first second =
      need_is [] one (length (mentions p) + length (mentions q)) (length (mentions p ++ mentions q)) now
      (make ns p now >>= λ i then. make ns q then >>= λ j. cell_made (cell.joined by i j))
      (sym (length-append (mentions p) (mentions q)))
      (then_runs [] one one (length (mentions p)) (length (mentions q)) now (make ns p now)
      (λ i then. make ns q then >>= λ j. cell_made (cell.joined by i j)) first
      (λ i mid. last_runs (one i) (λ j. one j ++ one i) one (length (mentions q)) mid (make ns q mid) (λ j. cell_made (cell.joined by i j))
      (framed (one i) one (length (mentions q)) mid (make ns q mid) (second mid)) (λ j then. joined_runs by i j then)))

  -- one item and those behind it
  row_runs : (n m : ℕ) (now : Stock) (first : Outcome (List Clause)) (more : Stock → Outcome (List Clause)) →
      Runs [] bodies_of n now first → ((mid : Stock) → Runs [] bodies_of m mid (more mid)) →
      Runs [] bodies_of (n + m) now (first >>= λ cs then. more then >>= λ ds. made (cs ++ ds))
  row_runs n m now first more one_runs more_run =
      then_runs [] bodies_of bodies_of n m now first (λ cs then. more then >>= λ ds. made (cs ++ ds)) one_runs
      (λ cs mid. last_runs (bodies_of cs) (λ ds. bodies_of ds ++ bodies_of cs) bodies_of m mid (more mid) (λ ds. made (cs ++ ds))
      (framed (bodies_of cs) bodies_of m mid (more mid) (more_run mid)) (λ ds then. behind_runs cs ds then))

  -- a definition
  define_runs : (name : Defined) (combine : Combine) (p : WrittenPattern) (now : Stock) →
      Runs [] one (length (mentions p)) now (make ns p now) →
      Runs [] bodies_of (length (mentions p)) now (make ns p now >>= λ i. made (record { name = name; combine = combine; body = i } ∷ []))
  define_runs name combine p now runs =
      last_runs [] one bodies_of (length (mentions p)) now (make ns p now)
      (λ i. made (record { name = name; combine = combine; body = i } ∷ [])) runs
      (λ i mid. made_runs bodies_of (record { name = name; combine = combine; body = i } ∷ []) mid)

  mutual
    pub pattern_runs : (p : WrittenPattern) (now : Stock) → Runs [] one (length (mentions p)) now (make ns p now)
    pattern_runs (written.element class p) now = around p (λ i. cell.element (class_in ns class) i) now (λ i. refl) (pattern_runs p now)
    pattern_runs (written.attribute class p) now = around p (λ i. cell.attribute (class_in ns class) i) now (λ i. refl) (pattern_runs p now)
    pattern_runs (written.list p) now = around p (λ i. cell.listed i) now (λ i. refl) (pattern_runs p now)
    pattern_runs (written.mixed p) now =
        first_runs [] one one (length (mentions p)) now (cell_made cell.any_text now)
        (λ text then. make ns p then >>= λ i. cell_made (cell.joined sign.Interleave text i)) (cell_runs cell.any_text now)
        (λ text mid. last_runs (one text) (λ i. one i ++ one text) one (length (mentions p)) mid (make ns p mid)
        (λ i. cell_made (cell.joined sign.Interleave text i)) (framed (one text) one (length (mentions p)) mid (make ns p mid)
        (pattern_runs p mid)) (λ i then. joined_runs sign.Interleave text i then))
    pattern_runs (written.ref name) now = cell_runs (cell.ref name) now
    pattern_runs (written.parent_ref name) now = cell_runs (cell.parent_ref name) now
    pattern_runs written.empty now = cell_runs cell.empty now
    pattern_runs written.any_text now = cell_runs cell.any_text now
    pattern_runs written.not_allowed now = cell_runs cell.not_allowed now
    pattern_runs (written.value type text) now = cell_runs (cell.value type text) now
    pattern_runs (written.typed type params) now =
        first_runs [] one one 0 now (cell_made cell.not_allowed now) (λ i. cell_made (cell.typed type params i))
        (cell_runs cell.not_allowed now) (λ i mid. cell_runs (cell.typed type params i) mid)
    pattern_runs (written.typed_but type params p) now = around p (λ i. cell.typed type params i) now (λ i. refl) (pattern_runs p now)
    pattern_runs (written.external reference) now = next_pattern_runs now
    pattern_runs (written.grammar items) now =
        last_runs [] bodies_of one (length (mentions_of_items items)) now (make_items ns items now)
        (λ clauses. cell_made (cell.grammar clauses)) (items_run items now) (λ clauses mid. cell_runs (cell.grammar clauses) mid)
    pattern_runs (written.optional p) now =
        last_runs [] one one (length (mentions p)) now (make ns p now) or_empty_made (pattern_runs p now) (λ i mid. or_empty_runs i mid)
    pattern_runs (written.zero_or_more p) now =
        last_runs [] one one (length (mentions p)) now (make ns p now) (λ i then. cell_made (cell.one_or_more i) then >>= or_empty_made)
        (pattern_runs p now)
        (λ i mid. first_runs (one i) one one 0 mid (cell_made (cell.one_or_more i) mid) or_empty_made (cell_runs (cell.one_or_more i) mid)
        (λ j then. or_empty_runs j then))
    pattern_runs (written.one_or_more p) now = around p (λ i. cell.one_or_more i) now (λ i. refl) (pattern_runs p now)
    pattern_runs (written.choice p q) now = between sign.Choice p q now (pattern_runs p now) (λ mid. pattern_runs q mid)
    pattern_runs (written.group p q) now = between sign.Group p q now (pattern_runs p now) (λ mid. pattern_runs q mid)
    pattern_runs (written.interleave p q) now = between sign.Interleave p q now (pattern_runs p now) (λ mid. pattern_runs q mid)

    pub item_runs : (item : WrittenItem) (now : Stock) → Runs [] bodies_of (length (mentions_of_item item)) now (make_item ns item now)
    item_runs (written.define name combine p) now = define_runs name combine p now (pattern_runs p now)
    item_runs (written.div items) now = items_run items now
    item_runs (written.include reference replacements) now =
        need_is [] bodies_of (1 + length (mentions_anew replacements)) (suc (length (mentions_anew replacements))) now
        (make_item ns (written.include reference replacements) now) (omega arith)
        (then_runs [] bodies_of bodies_of 1 (length (mentions_anew replacements)) now (next_grammar now)
        (λ old then. make_anew ns replacements then >>= λ new. replaced_if (defines_all old new) (with_new old new))
        (next_grammar_runs now)
        (λ old mid. last_runs (bodies_of old) (λ new. bodies_of new ++ bodies_of old) bodies_of (length (mentions_anew replacements)) mid
        (make_anew ns replacements mid) (λ new. replaced_if (defines_all old new) (with_new old new))
        (framed (bodies_of old) bodies_of (length (mentions_anew replacements)) mid (make_anew ns replacements mid)
        (anew_run replacements mid)) (λ new then. replaced_runs (defines_all old new) old new then)))

    pub items_run : (items : WrittenItems) (now : Stock) →
        Runs [] bodies_of (length (mentions_of_items items)) now (make_items ns items now)
    items_run written.no_items now = made_runs bodies_of [] now
    items_run (written.item_then item items) now =
        need_is [] bodies_of (length (mentions_of_item item) + length (mentions_of_items items))
        (length (mentions_of_item item ++ mentions_of_items items)) now (make_items ns (written.item_then item items) now)
        (sym (length-append (mentions_of_item item) (mentions_of_items items)))
        (row_runs (length (mentions_of_item item)) (length (mentions_of_items items)) now (make_item ns item now)
        (λ then. make_items ns items then) (item_runs item now) (λ mid. items_run items mid))

    pub replacement_runs : (replacement : WrittenReplacement) (now : Stock) →
        Runs [] bodies_of (length (mentions_of_replacement replacement)) now (make_replacement ns replacement now)
    replacement_runs (written.define_anew name combine p) now = define_runs name combine p now (pattern_runs p now)
    replacement_runs (written.div_anew replacements) now = anew_run replacements now

    pub anew_run : (replacements : WrittenReplacements) (now : Stock) →
        Runs [] bodies_of (length (mentions_anew replacements)) now (make_anew ns replacements now)
    anew_run written.no_replacements now = made_runs bodies_of [] now
    anew_run (written.replacement_then replacement replacements) now =
        need_is [] bodies_of (length (mentions_of_replacement replacement) + length (mentions_anew replacements))
        (length (mentions_of_replacement replacement ++ mentions_anew replacements)) now
        (make_anew ns (written.replacement_then replacement replacements) now)
        (sym (length-append (mentions_of_replacement replacement) (mentions_anew replacements)))
        (row_runs (length (mentions_of_replacement replacement)) (length (mentions_anew replacements)) now
        (make_replacement ns replacement now) (λ then. make_anew ns replacements then) (replacement_runs replacement now)
        (λ mid. anew_run replacements mid))

  -- a whole file
  lone_runs : (p : WrittenPattern) (now : Stock) → Runs [] piece_nodes (length (mentions p)) now (lone_made ns p now)
  lone_runs p now =
      last_runs [] one piece_nodes (length (mentions p)) now (make ns p now) (λ root. made (of_pattern root)) (pattern_runs p now)
      (λ root mid. made_runs piece_nodes (of_pattern root) mid)

  grammar_file_runs : (items : WrittenItems) (now : Stock) →
      Runs [] piece_nodes (length (mentions_of_items items)) now (make_file ns (written.a_grammar items) now)
  grammar_file_runs items now =
      last_runs [] bodies_of piece_nodes (length (mentions_of_items items)) now (make_items ns items now)
      (λ clauses. made (of_grammar clauses)) (items_run items now) (λ clauses mid. made_runs piece_nodes (of_grammar clauses) mid)

  pub file_runs : (surface : WrittenSurface) (now : Stock) →
      Runs [] piece_nodes (length (mentions_of surface)) now (make_file ns surface now)
  file_runs (written.a_grammar items) now = grammar_file_runs items now
  file_runs (written.a_pattern (written.grammar items)) now = grammar_file_runs items now
  file_runs (written.a_pattern p) now = lone_runs p now
