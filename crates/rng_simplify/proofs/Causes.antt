-- The causes for which simplification refuses files, whatever they tell.
use Rattle.std.proofs.Common.{◌≡◌, subst, ℕ, Bool, true, false, List, [], ◌∷◌, ◌++◌, length}
use Rattle.nx_base.specs.declared.cause.Cause.{Cause}
use Rattle.nx_base.specs.declared.cause.Cause.TheVariants as cause
use Rattle.rnc_parse.specs.Views.{surface_of}
use Rattle.rnc_parse.specs.Written.{WrittenPattern, WrittenItem, WrittenItems, WrittenReplacement, WrittenReplacements, WrittenSurface}
use Rattle.rnc_parse.specs.Written as written
use Rattle.rng_simplify.specs.declared.load.Loaded.{Loaded}
use Rattle.rng_simplify.specs.declared.node.Clause.{Clause}
use Rattle.rng_simplify.specs.declared.node.Sign.TheVariants as sign
use Rattle.rng_simplify.specs.Broken.{WholeIsBroken}
use Rattle.rng_simplify.specs.Cells.{Cell}
use Rattle.rng_simplify.specs.Cells as cell
use Rattle.rng_simplify.specs.Classes.{class_in}
use Rattle.rng_simplify.specs.Composed.{Composed}
use Rattle.rng_simplify.specs.CellMeanings.{Denotes}
use Rattle.rng_simplify.specs.Grammars.{IsBrokenSchema}
use Rattle.rng_simplify.specs.MadeCells.{Stock, Outcome, made, refused, no_piece, ◌>>=◌, FilePiece, of_pattern, of_grammar, cell_made, or_empty_made, next_piece, as_pattern, as_grammar, next_pattern, next_grammar, make, make_item, make_items, make_replacement, make_anew, replaced_if, defines_all, with_new, make_file, lone_made, file_made, files_made, nothing_made, whole_made}
use Rattle.rng_simplify.specs.Simplified.{IsOfSimplification}
use Rattle.rng_simplify.specs.NodePlaces.{AreWellFormed}
use Rattle.rng_simplify.proofs.Denoted.{well_formed_denotes}

-- ---- of a schema in one piece

whole_cause : (whole : Composed) (why : Cause) → WholeIsBroken whole why → IsOfSimplification why
whole_cause whole cause.Path h = absurd h
whole_cause whole cause.Mixture h = absurd h
whole_cause whole cause.AttributeOverlap h = absurd h
whole_cause whole cause.WildcardOnce h = absurd h
whole_cause whole cause.InterleaveOverlap h = absurd h
whole_cause whole cause.TextTwice h = absurd h
whole_cause whole cause.NothingValid h = absurd h
whole_cause whole why h = tt

pub schema_cause : {cells : List Cell} {root : ℕ} → AreWellFormed cells root → (why : Cause) → IsBrokenSchema cells root why →
    IsOfSimplification why
schema_cause {cells} {root} formed why h =
    let one : (whole : Composed) × Denotes cells h.number root whole = well_formed_denotes cells root formed h.number in
    whole_cause one.0 why (h.broken one.0 one.1)

-- ---- of composing

-- a refusal is for a cause of simplification
abbrev Tells : {A : Type 0} → Outcome A → Type 0
Tells (made value now) = Unit {0}
Tells (refused why) = IsOfSimplification why
Tells no_piece = Unit {0}

both_tell : {A B : Type 0} → (outcome : Outcome A) (more : A → Stock → Outcome B) → Tells outcome →
    ((value : A) (mid : Stock) → Tells (more value mid)) → Tells (outcome >>= more)
both_tell (made value mid) more h k = k value mid
both_tell (refused why) more h k = h
both_tell no_piece more h k = tt

piece_tells : (cells : List Cell) (pieces : List FilePiece) → Tells (next_piece cells pieces)
piece_tells cells [] = tt
piece_tells cells (first ∷ more) = tt

pattern_tells : (piece : FilePiece) (now : Stock) → Tells (as_pattern piece now)
pattern_tells (of_pattern root) now = tt
pattern_tells (of_grammar clauses) now = tt

grammar_tells : (piece : FilePiece) (now : Stock) → Tells (as_grammar piece now)
grammar_tells (of_pattern root) now = tt
grammar_tells (of_grammar clauses) now = tt

next_pattern_tells : (now : Stock) → Tells (next_pattern now)
next_pattern_tells now = both_tell (next_piece now.cells now.pieces) as_pattern (piece_tells now.cells now.pieces) pattern_tells

replaced_tells : (all : Bool) (clauses : List Clause) (now : Stock) → Tells (replaced_if all clauses now)
replaced_tells true clauses now = tt
replaced_tells false clauses now = tt

module _ (ns : List ℕ) where
  mutual
    tells : (p : WrittenPattern) (now : Stock) → Tells (make ns p now)
    tells (written.element class p) now =
        both_tell (make ns p now) (λ i. cell_made (cell.element (class_in ns class) i)) (tells p now) (λ i mid. tt)
    tells (written.attribute class p) now =
        both_tell (make ns p now) (λ i. cell_made (cell.attribute (class_in ns class) i)) (tells p now) (λ i mid. tt)
    tells (written.list p) now = both_tell (make ns p now) (λ i. cell_made (cell.listed i)) (tells p now) (λ i mid. tt)
    tells (written.mixed p) now =
        let text : Stock = record { cells = now.cells ++ cell.any_text ∷ []; pieces = now.pieces } in
        both_tell (make ns p text) (λ i. cell_made (cell.joined sign.Interleave (length now.cells) i)) (tells p text) (λ i mid. tt)
    tells (written.ref name) now = tt
    tells (written.parent_ref name) now = tt
    tells written.empty now = tt
    tells written.any_text now = tt
    tells written.not_allowed now = tt
    tells (written.value type text) now = tt
    tells (written.typed type params) now = tt
    tells (written.typed_but type params except) now =
        both_tell (make ns except now) (λ i. cell_made (cell.typed type params i)) (tells except now) (λ i mid. tt)
    tells (written.external reference) now = next_pattern_tells now
    tells (written.grammar items) now =
        both_tell (make_items ns items now) (λ clauses. cell_made (cell.grammar clauses)) (items_tell items now) (λ clauses mid. tt)
    tells (written.optional p) now = both_tell (make ns p now) or_empty_made (tells p now) (λ i mid. tt)
    tells (written.zero_or_more p) now =
        both_tell (make ns p now) (λ i then. cell_made (cell.one_or_more i) then >>= or_empty_made) (tells p now) (λ i mid. tt)
    tells (written.one_or_more p) now = both_tell (make ns p now) (λ i. cell_made (cell.one_or_more i)) (tells p now) (λ i mid. tt)
    tells (written.choice p q) now =
        both_tell (make ns p now) (λ i then. make ns q then >>= λ j. cell_made (cell.joined sign.Choice i j)) (tells p now)
        (λ i mid. both_tell (make ns q mid) (λ j. cell_made (cell.joined sign.Choice i j)) (tells q mid) (λ j behind. tt))
    tells (written.group p q) now =
        both_tell (make ns p now) (λ i then. make ns q then >>= λ j. cell_made (cell.joined sign.Group i j)) (tells p now)
        (λ i mid. both_tell (make ns q mid) (λ j. cell_made (cell.joined sign.Group i j)) (tells q mid) (λ j behind. tt))
    tells (written.interleave p q) now =
        both_tell (make ns p now) (λ i then. make ns q then >>= λ j. cell_made (cell.joined sign.Interleave i j)) (tells p now)
        (λ i mid. both_tell (make ns q mid) (λ j. cell_made (cell.joined sign.Interleave i j)) (tells q mid) (λ j behind. tt))

    item_tells : (item : WrittenItem) (now : Stock) → Tells (make_item ns item now)
    item_tells (written.define name combine p) now =
        both_tell (make ns p now) (λ i. made (record { name = name; combine = combine; body = i } ∷ [])) (tells p now) (λ i mid. tt)
    item_tells (written.div items) now = items_tell items now
    item_tells (written.include reference replacements) now =
        both_tell (next_grammar now)
        (λ old then. make_anew ns replacements then >>= λ new. replaced_if (defines_all old new) (with_new old new))
        (both_tell (next_piece now.cells now.pieces) as_grammar (piece_tells now.cells now.pieces) grammar_tells)
        (λ old mid. both_tell (make_anew ns replacements mid) (λ new. replaced_if (defines_all old new) (with_new old new))
        (anew_tell replacements mid) (λ new behind. replaced_tells (defines_all old new) (with_new old new) behind))

    items_tell : (items : WrittenItems) (now : Stock) → Tells (make_items ns items now)
    items_tell written.no_items now = tt
    items_tell (written.item_then item items) now =
        both_tell (make_item ns item now) (λ first then. make_items ns items then >>= λ more. made (first ++ more))
        (item_tells item now)
        (λ first mid. both_tell (make_items ns items mid) (λ more. made (first ++ more)) (items_tell items mid) (λ more behind. tt))

    replacement_tells : (replacement : WrittenReplacement) (now : Stock) → Tells (make_replacement ns replacement now)
    replacement_tells (written.define_anew name combine p) now =
        both_tell (make ns p now) (λ i. made (record { name = name; combine = combine; body = i } ∷ [])) (tells p now) (λ i mid. tt)
    replacement_tells (written.div_anew replacements) now = anew_tell replacements now

    anew_tell : (replacements : WrittenReplacements) (now : Stock) → Tells (make_anew ns replacements now)
    anew_tell written.no_replacements now = tt
    anew_tell (written.replacement_then replacement replacements) now =
        both_tell (make_replacement ns replacement now) (λ first then. make_anew ns replacements then >>= λ more. made (first ++ more))
        (replacement_tells replacement now)
        (λ first mid. both_tell (make_anew ns replacements mid) (λ more. made (first ++ more)) (anew_tell replacements mid)
        (λ more behind. tt))

  lone_tells : (p : WrittenPattern) (now : Stock) → Tells (lone_made ns p now)
  lone_tells p now = both_tell (make ns p now) (λ root. made (of_pattern root)) (tells p now) (λ root mid. tt)

  grammar_file_tells : (items : WrittenItems) (now : Stock) → Tells (make_items ns items now >>= λ clauses. made (of_grammar clauses))
  grammar_file_tells items now =
      both_tell (make_items ns items now) (λ clauses. made (of_grammar clauses)) (items_tell items now) (λ clauses mid. tt)

  file_tells : (surface : WrittenSurface) (now : Stock) → Tells (make_file ns surface now)
  file_tells (written.a_grammar items) now = grammar_file_tells items now
  file_tells (written.a_pattern (written.grammar items)) now = grammar_file_tells items now
  file_tells (written.a_pattern p) now = lone_tells p now

files_tell : (files : List Loaded) (now : Stock) → Tells (files_made files now)
files_tell [] now = tt
files_tell (file ∷ files) now =
    both_tell (file_made file now) (λ done. files_made files)
    (both_tell (make_file file.inherited (surface_of file.surface) now)
    (λ piece then. made tt (record { cells = then.cells; pieces = piece ∷ then.pieces }))
    (file_tells file.inherited (surface_of file.surface) now) (λ piece mid. tt)) (λ done mid. files_tell files mid)

pub composing_cause : (files : List Loaded) (why : Cause) → whole_made files ≡ refused why → IsOfSimplification why
composing_cause files why is =
    subst (λ outcome. Tells outcome) is
    (both_tell (files_made files nothing_made) (λ done. next_pattern) (files_tell files nothing_made)
    (λ done mid. next_pattern_tells mid))
