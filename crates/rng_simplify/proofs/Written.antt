-- What is written in the nodes that composing makes is UTF-8.
use Rattle.std.proofs.Common.{◌≡◌, sym, ap, ◌∙◌, subst, Bool, true, false, ℕ, List, [], ◌∷◌, ◌++◌, length, Option, IsTrue, ◌⊎◌, inl, inr}
use Rattle.std.specs.Prelude.{IsUtf8, reverse}
use Rattle.std.specs.Str.{is_utf8}
use Rattle.std.proofs.lemmas.List.{reverse-reverse}
use Rattle.std.proofs.lemmas.Str.{is_utf8-from_IsUtf8}
use Rattle.nx_host.specs.Files.{FileMap}
use Rattle.rnc_parse.specs.declared.surface.Namespace.{Namespace}
use Rattle.rnc_parse.specs.declared.surface.Namespace.TheVariants as namespace
use Rattle.rnc_parse.specs.Texts.{NamespaceIsText, ClassIsText, PatternIsText, ItemIsText, ItemsAreText, ReplacementIsText, ReplacementsAreText, HasUtf8Texts}
use Rattle.rnc_parse.specs.Views.{surface_of}
use Rattle.rnc_parse.specs.Written.{WrittenClass, WrittenPattern, WrittenItem, WrittenItems, WrittenReplacement, WrittenReplacements, WrittenSurface}
use Rattle.rnc_parse.specs.Written as written
use Rattle.rng_core.specs.Soundness.{IsSoundClass, sound_any_name, sound_ns_name, sound_name, sound_either, sound_without}
use Rattle.rng_simplify.specs.declared.load.Loaded.{Loaded}
use Rattle.rng_simplify.specs.declared.node.Clause.{Clause}
use Rattle.rng_simplify.specs.declared.node.Sign.TheVariants as sign
use Rattle.rng_simplify.specs.Classes.{namespace_in, class_in}
use Rattle.rng_simplify.specs.Cells.{Cell}
use Rattle.rng_simplify.specs.Cells as cell
use Rattle.rng_simplify.specs.CellTexts.{IsText, AreTexts}
use Rattle.rng_simplify.specs.Composition.{MadeIsText}
use Rattle.rng_simplify.specs.CellMeanings.{IsCell}
use Rattle.rng_simplify.specs.LoadedFiles.{Waiting, IsTextFile, AreRead, all_read, one_read, AllLoaded}
use Rattle.rng_simplify.specs.MadeCells.{Stock, Outcome, made, refused, no_piece, ◌>>=◌, FilePiece, of_pattern, of_grammar, cell_made, or_empty_made, next_piece, as_pattern, as_grammar, next_pattern, next_grammar, make, make_item, make_items, make_replacement, make_anew, replaced_if, defines_all, with_new, make_file, lone_made, file_made, files_made, nothing_made, whole_made}
use Rattle.rng_simplify.proofs.Owning.{old_or_last}
use Rattle.rng_simplify.proofs.Walking.{file_last}

-- ---- steps

-- what is written in the cells so far is UTF-8
abbrev Writes : {A : Type 0} → Outcome A → Type 0
Writes (made v now) = AreTexts now.cells
Writes (refused why) = Unit {0}
Writes no_piece = Unit {0}

then_writes : {A B : Type 0} (outcome : Outcome A) (more : A → Stock → Outcome B) → Writes outcome →
    ((v : A) (now : Stock) → AreTexts now.cells → Writes (more v now)) → Writes (outcome >>= more)
then_writes (made v now) more first second = second v now first
then_writes (refused why) more first second = tt
then_writes no_piece more first second = tt

cell_writes : (c : Cell) (now : Stock) → IsText c → AreTexts now.cells → Writes (cell_made c now)
cell_writes c now is_text texts = record { each_is = λ i d at. each i d (old_or_last now.cells c i d at) }
  where
    each : (i : ℕ) (d : Cell) → IsCell now.cells i d ⊎ ((i ≡ length now.cells) × (c ≡ d)) → IsText d
    each i d (inl at) = texts.each_is i d at
    each i d (inr h) = subst (λ x. IsText x) h.1 is_text

or_empty_writes : (i : ℕ) (now : Stock) → AreTexts now.cells → Writes (or_empty_made i now)
or_empty_writes i now texts =
    then_writes (cell_made cell.empty now) (λ e. cell_made (cell.joined sign.Choice i e)) (cell_writes cell.empty now tt texts)
    (λ e mid more. cell_writes (cell.joined sign.Choice i e) mid tt more)

pattern_writes : (cells : List Cell) (pieces : List FilePiece) → AreTexts cells → Writes (next_piece cells pieces >>= as_pattern)
pattern_writes cells [] texts = tt
pattern_writes cells (of_pattern root ∷ more) texts = texts
pattern_writes cells (of_grammar clauses ∷ more) texts =
    cell_writes (cell.grammar clauses) (record { cells = cells; pieces = more }) tt texts

grammar_writes : (cells : List Cell) (pieces : List FilePiece) → AreTexts cells → Writes (next_piece cells pieces >>= as_grammar)
grammar_writes cells [] texts = tt
grammar_writes cells (of_pattern root ∷ more) texts = tt
grammar_writes cells (of_grammar clauses ∷ more) texts = texts

replaced_writes : (old new : List Clause) (now : Stock) → AreTexts now.cells →
    Writes (replaced_if (defines_all old new) (with_new old new) now)
replaced_writes old new now texts = at (defines_all old new)
  where
    at : (b : Bool) → Writes (replaced_if b (with_new old new) now)
    at true = texts
    at false = tt

-- ---- a file that inherits the namespace

module _ (ns : List ℕ) (is_text : IsUtf8 ns) where
  namespace_writes : (namespace : Namespace) → NamespaceIsText namespace → IsTrue (is_utf8 (namespace_in ns namespace))
  namespace_writes namespace.Inherited h = is_utf8-from_IsUtf8 ns is_text
  namespace_writes (namespace.Uri uri) h = is_utf8-from_IsUtf8 uri h

  class_writes : (class : WrittenClass) → ClassIsText class → IsSoundClass (class_in ns class)
  class_writes written.every_name h = sound_any_name
  class_writes (written.names_in namespace) h = sound_ns_name (namespace_writes namespace h)
  class_writes (written.the_name namespace local) h = sound_name (namespace_writes namespace h.0) (is_utf8-from_IsUtf8 local h.1)
  class_writes written.no_name h = sound_without sound_any_name sound_any_name
  class_writes (written.either c d) h = sound_either (class_writes c h.0) (class_writes d h.1)
  class_writes (written.without c d) h = sound_without (class_writes c h.0) (class_writes d h.1)

  -- definitions and those behind them
  row_writes : (first : Outcome (List Clause)) (more : Stock → Outcome (List Clause)) → Writes first →
      ((now : Stock) → AreTexts now.cells → Writes (more now)) → Writes (first >>= λ cs then. more then >>= λ ds. made (cs ++ ds))
  row_writes first more one others =
      then_writes first (λ cs then. more then >>= λ ds. made (cs ++ ds)) one (λ cs now texts. then_writes (more now) (λ ds. made (cs ++ ds))
      (others now texts) (λ ds then ts. ts))

  mutual
    make_writes : (p : WrittenPattern) (now : Stock) → PatternIsText p → AreTexts now.cells → Writes (make ns p now)
    make_writes (written.element class p) now h texts =
        then_writes (make ns p now) (λ i. cell_made (cell.element (class_in ns class) i)) (make_writes p now h.1 texts)
        (λ i mid ts. cell_writes (cell.element (class_in ns class) i) mid (class_writes class h.0) ts)
    make_writes (written.attribute class p) now h texts =
        then_writes (make ns p now) (λ i. cell_made (cell.attribute (class_in ns class) i)) (make_writes p now h.1 texts)
        (λ i mid ts. cell_writes (cell.attribute (class_in ns class) i) mid (class_writes class h.0) ts)
    make_writes (written.list p) now h texts =
        then_writes (make ns p now) (λ i. cell_made (cell.listed i)) (make_writes p now h texts)
        (λ i mid ts. cell_writes (cell.listed i) mid tt ts)
    make_writes (written.mixed p) now h texts =
        then_writes (cell_made cell.any_text now) (λ text then. make ns p then >>= λ i. cell_made (cell.joined sign.Interleave text i))
        (cell_writes cell.any_text now tt texts)
        (λ text mid ts. then_writes (make ns p mid) (λ i. cell_made (cell.joined sign.Interleave text i)) (make_writes p mid h ts)
        (λ i then us. cell_writes (cell.joined sign.Interleave text i) then tt us))
    make_writes (written.ref name) now h texts = cell_writes (cell.ref name) now tt texts
    make_writes (written.parent_ref name) now h texts = cell_writes (cell.parent_ref name) now tt texts
    make_writes written.empty now h texts = cell_writes cell.empty now tt texts
    make_writes written.any_text now h texts = cell_writes cell.any_text now tt texts
    make_writes written.not_allowed now h texts = cell_writes cell.not_allowed now tt texts
    make_writes (written.value type text) now h texts = cell_writes (cell.value type text) now (h.0.0, h.0.1, h.1) texts
    make_writes (written.typed type params) now h texts =
        then_writes (cell_made cell.not_allowed now) (λ i. cell_made (cell.typed type params i)) (cell_writes cell.not_allowed now tt texts)
        (λ i mid ts. cell_writes (cell.typed type params i) mid h.0 ts)
    make_writes (written.typed_but type params p) now h texts =
        then_writes (make ns p now) (λ i. cell_made (cell.typed type params i)) (make_writes p now h.2 texts)
        (λ i mid ts. cell_writes (cell.typed type params i) mid h.0 ts)
    make_writes (written.external reference) now h texts = pattern_writes now.cells now.pieces texts
    make_writes (written.grammar items) now h texts =
        then_writes (make_items ns items now) (λ clauses. cell_made (cell.grammar clauses)) (items_write items now h texts)
        (λ clauses mid ts. cell_writes (cell.grammar clauses) mid tt ts)
    make_writes (written.optional p) now h texts =
        then_writes (make ns p now) or_empty_made (make_writes p now h texts) (λ i mid ts. or_empty_writes i mid ts)
    make_writes (written.zero_or_more p) now h texts =
        then_writes (make ns p now) (λ i then. cell_made (cell.one_or_more i) then >>= or_empty_made) (make_writes p now h texts)
        (λ i mid ts. then_writes (cell_made (cell.one_or_more i) mid) or_empty_made (cell_writes (cell.one_or_more i) mid tt ts)
        (λ j then us. or_empty_writes j then us))
    make_writes (written.one_or_more p) now h texts =
        then_writes (make ns p now) (λ i. cell_made (cell.one_or_more i)) (make_writes p now h texts)
        (λ i mid ts. cell_writes (cell.one_or_more i) mid tt ts)
    make_writes (written.choice p q) now h texts =
        then_writes (make ns p now) (λ i then. make ns q then >>= λ j. cell_made (cell.joined sign.Choice i j))
        (make_writes p now h.0 texts)
        (λ i mid ts. then_writes (make ns q mid) (λ j. cell_made (cell.joined sign.Choice i j)) (make_writes q mid h.1 ts)
        (λ j then us. cell_writes (cell.joined sign.Choice i j) then tt us))
    make_writes (written.group p q) now h texts =
        then_writes (make ns p now) (λ i then. make ns q then >>= λ j. cell_made (cell.joined sign.Group i j)) (make_writes p now h.0 texts)
        (λ i mid ts. then_writes (make ns q mid) (λ j. cell_made (cell.joined sign.Group i j)) (make_writes q mid h.1 ts)
        (λ j then us. cell_writes (cell.joined sign.Group i j) then tt us))
    make_writes (written.interleave p q) now h texts =
        then_writes (make ns p now) (λ i then. make ns q then >>= λ j. cell_made (cell.joined sign.Interleave i j))
        (make_writes p now h.0 texts)
        (λ i mid ts. then_writes (make ns q mid) (λ j. cell_made (cell.joined sign.Interleave i j)) (make_writes q mid h.1 ts)
        (λ j then us. cell_writes (cell.joined sign.Interleave i j) then tt us))

    item_writes : (item : WrittenItem) (now : Stock) → ItemIsText item → AreTexts now.cells → Writes (make_item ns item now)
    item_writes (written.define name combine p) now h texts =
        then_writes (make ns p now) (λ i. made (record { name = name; combine = combine; body = i } ∷ [])) (make_writes p now h.1 texts)
        (λ i mid ts. ts)
    item_writes (written.div items) now h texts = items_write items now h texts
    item_writes (written.include reference replacements) now h texts =
        then_writes (next_grammar now) (λ old then. make_anew ns replacements then >>= λ new. replaced_if (defines_all old new)
        (with_new old new)) (grammar_writes now.cells now.pieces texts)
        (λ old mid ts. then_writes (make_anew ns replacements mid) (λ new. replaced_if (defines_all old new) (with_new old new))
        (anew_write replacements mid h.1 ts) (λ new then us. replaced_writes old new then us))

    items_write : (items : WrittenItems) (now : Stock) → ItemsAreText items → AreTexts now.cells → Writes (make_items ns items now)
    items_write written.no_items now h texts = texts
    items_write (written.item_then item items) now h texts =
        row_writes (make_item ns item now) (λ then. make_items ns items then) (item_writes item now h.0 texts)
        (λ mid ts. items_write items mid h.1 ts)

    replacement_writes : (replacement : WrittenReplacement) (now : Stock) → ReplacementIsText replacement → AreTexts now.cells →
        Writes (make_replacement ns replacement now)
    replacement_writes (written.define_anew name combine p) now h texts =
        then_writes (make ns p now) (λ i. made (record { name = name; combine = combine; body = i } ∷ [])) (make_writes p now h.1 texts)
        (λ i mid ts. ts)
    replacement_writes (written.div_anew replacements) now h texts = anew_write replacements now h texts

    anew_write : (replacements : WrittenReplacements) (now : Stock) → ReplacementsAreText replacements → AreTexts now.cells →
        Writes (make_anew ns replacements now)
    anew_write written.no_replacements now h texts = texts
    anew_write (written.replacement_then replacement replacements) now h texts =
        row_writes (make_replacement ns replacement now) (λ then. make_anew ns replacements then)
        (replacement_writes replacement now h.0 texts) (λ mid ts. anew_write replacements mid h.1 ts)

  lone_writes : (p : WrittenPattern) (now : Stock) → PatternIsText p → AreTexts now.cells → Writes (lone_made ns p now)
  lone_writes p now h texts = then_writes (make ns p now) (λ root. made (of_pattern root)) (make_writes p now h texts) (λ root mid ts. ts)

  grammar_file_writes : (items : WrittenItems) (now : Stock) → ItemsAreText items → AreTexts now.cells →
      Writes (make_file ns (written.a_grammar items) now)
  grammar_file_writes items now h texts =
      then_writes (make_items ns items now) (λ clauses. made (of_grammar clauses)) (items_write items now h texts) (λ clauses mid ts. ts)

  surface_writes : (surface : WrittenSurface) (now : Stock) → HasUtf8Texts surface → AreTexts now.cells → Writes (make_file ns surface now)
  surface_writes (written.a_grammar items) now h texts = grammar_file_writes items now h texts
  surface_writes (written.a_pattern (written.grammar items)) now h texts = grammar_file_writes items now h texts
  surface_writes (written.a_pattern p) now h texts = lone_writes p now h texts

-- ---- files

file_writes : (file : Loaded) (now : Stock) → IsTextFile file → AreTexts now.cells → Writes (file_made file now)
file_writes file now is_text texts =
    then_writes (make_file file.inherited (surface_of file.surface) now)
    (λ piece then. made (tt {0}) (record { cells = then.cells; pieces = piece ∷ then.pieces }))
    (surface_writes file.inherited is_text.0 (surface_of file.surface) now is_text.1 texts) (λ piece then ts. ts)

file_step : (file : Loaded) (files : List Loaded) → IsTextFile file → Writes (files_made (reverse files) nothing_made) →
    Writes (files_made (reverse (file ∷ files)) nothing_made)
file_step file files is_text before =
    subst Writes (sym (file_last file files)) (then_writes (files_made (reverse files) nothing_made) (λ done. file_made file) before
    (λ done now texts. file_writes file now is_text texts))

walk_writes : (told : Option FileMap) (waiting : List Waiting) (read : List Loaded) → AreRead told waiting read →
    Writes (files_made (reverse read) nothing_made)
walk_writes told waiting read all_read = record { each_is = λ i c at. let never : ⊥ = cc in absurd never }
walk_writes told waiting read (one_read {file = file} {files = rest} inner is_read reads) =
    file_step file rest is_read.texts (walk_writes told _ rest reads)

files_write : (told : Option FileMap) (uri : List ℕ) (loaded : List Loaded) → AllLoaded told uri loaded →
    Writes (whole_made (reverse loaded))
files_write told uri [] loaded = absurd loaded
files_write told uri (first ∷ others) loaded =
    then_writes (files_made (reverse (first ∷ others)) nothing_made) (λ done. next_pattern)
    (file_step first others loaded.texts (walk_writes told _ others loaded.others_read))
    (λ done now texts. pattern_writes now.cells now.pieces texts)

pub made_is_text : MadeIsText
made_is_text told uri loaded all root left is =
    subst Writes (ap whole_made (reverse-reverse loaded) ∙ is) (files_write told uri (reverse loaded) all)
