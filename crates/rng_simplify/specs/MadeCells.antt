-- What composing makes of a file's patterns: cells, one behind another, and pieces of files taken from a stack. That this is
-- the schema in one piece, a law says.
use Rattle.std.specs.Prelude.{◌≡◌, ℕ, Bool, true, false, not, List, [], ◌∷◌, ◌++◌, length, map, reverse, filter, Option}
use Rattle.std.specs.Prelude.{Some, None, Result, Ok, Err, Vec}
use Rattle.std.specs.declared.alloc.Global.{Global}
use Rattle.std.specs.List.{list_any, list_all}
use Rattle.nx_base.specs.declared.cause.Cause.{Cause}
use Rattle.nx_base.specs.declared.cause.Cause.TheVariants.{NoDefinition, NotGrammar}
use Rattle.rnc_parse.specs.declared.surface.Defined.{Defined}
use Rattle.rnc_parse.specs.declared.surface.Pattern.{Pattern}
use Rattle.rnc_parse.specs.Views.{pattern_of, surface_of}
use Rattle.rnc_parse.specs.Written.{WrittenPattern, WrittenItem, WrittenItems, WrittenReplacement, WrittenReplacements, WrittenSurface}
use Rattle.rnc_parse.specs.Written as written
use Rattle.rng_simplify.specs.declared.stop.Stop.{Stop}
use Rattle.rng_simplify.specs.declared.stop.Stop.TheVariants.{Unreadable, NoPiece, NoMemory}
use Rattle.rng_simplify.specs.declared.node.Sign.{Sign}
use Rattle.rng_simplify.specs.declared.node.Sign.TheVariants as sign
use Rattle.rng_simplify.specs.declared.node.Clause.{Clause}
use Rattle.rng_simplify.specs.declared.compose.Piece.{Piece}
use Rattle.rng_simplify.specs.declared.compose.Piece.TheVariants as piece
use Rattle.rng_simplify.specs.declared.compose.Composer.{Composer}
use Rattle.rng_simplify.specs.declared.compose.Whole.{Whole}
use Rattle.rng_simplify.specs.declared.fault.SchemaFault.{SchemaFault}
use Rattle.rng_simplify.specs.declared.fault.SchemaFault.TheVariants as fault
use Rattle.rng_simplify.specs.declared.load.Loaded.{Loaded}
use Rattle.rng_simplify.specs.Classes.{class_in}
use Rattle.rng_simplify.specs.Composed.{same_defined}
use Rattle.rng_simplify.specs.Cells.{Cell, cell_of}
use Rattle.rng_simplify.specs.Cells as cell

-- what a file is in the schema
pub data FilePiece : Type 0 where
  of_pattern : ℕ → FilePiece
  of_grammar : List Clause → FilePiece

abbrev pub piece_of : Piece → FilePiece
piece_of (piece.Pattern root) = of_pattern root
piece_of (piece.Grammar clauses) = of_grammar clauses.items

-- the cells so far, and the pieces that are left, the next one first
pub record Stock : Type 0 where
  pub cells : List Cell
  pub pieces : List FilePiece

abbrev pub stock_of : Composer → Stock
stock_of composer = record { cells = map cell_of composer.nodes.items; pieces = reverse (map piece_of composer.pieces.items) }

-- something was made, or the files make no schema, or a piece was missing
pub data Outcome (A : Type 0) : Type 0 where
  made : A → Stock → Outcome A
  refused : Cause → Outcome A
  no_piece : Outcome A

-- the next step, from what the one before made
infixl 10 ◌>>=◌
abbrev pub ◌>>=◌ : {A B : Type 0} → Outcome A → (A → Stock → Outcome B) → Outcome B
made value now >>= more = more value now
refused why >>= more = refused why
no_piece >>= more = no_piece

-- a call answers what is made, seen by view, and leaves what is so far, unless memory runs out
abbrev pub Makes : {A B : Type 0} → Stock → (A → B) → Outcome B → Result A Stop → Type 0
Makes after view outcome (Ok value) = outcome ≡ made (view value) after
Makes after view outcome (Err (Unreadable why)) = outcome ≡ refused why
Makes after view outcome (Err NoPiece) = outcome ≡ no_piece
Makes after view outcome (Err NoMemory) = Unit {0}

-- a further cell, by its number
abbrev pub cell_made : Cell → Stock → Outcome ℕ
cell_made c now = made (length now.cells) (record { cells = now.cells ++ c ∷ []; pieces = now.pieces })

-- a choice of a pattern and nothing at all
abbrev pub or_empty_made : ℕ → Stock → Outcome ℕ
or_empty_made body now = cell_made cell.empty now >>= λ e. cell_made (cell.joined sign.Choice body e)

-- the next piece
abbrev pub next_piece : List Cell → List FilePiece → Outcome FilePiece
next_piece cells [] = no_piece
next_piece cells (first ∷ more) = made first (record { cells = cells; pieces = more })

-- as a pattern
abbrev pub as_pattern : FilePiece → Stock → Outcome ℕ
as_pattern (of_pattern root) now = made root now
as_pattern (of_grammar clauses) now = cell_made (cell.grammar clauses) now

abbrev pub next_pattern : Stock → Outcome ℕ
next_pattern now = next_piece now.cells now.pieces >>= as_pattern

-- as a grammar
abbrev pub as_grammar : FilePiece → Stock → Outcome (List Clause)
as_grammar (of_pattern root) now = refused NotGrammar
as_grammar (of_grammar clauses) now = made clauses now

abbrev pub next_grammar : Stock → Outcome (List Clause)
next_grammar now = next_piece now.cells now.pieces >>= as_grammar

-- ---- definitions that are replaced

abbrev pub is_defined : List Clause → Defined → Bool
is_defined clauses name = list_any (λ (c : Clause). same_defined name c.name) clauses

abbrev pub defines_all : List Clause → List Clause → Bool
defines_all old new = list_all (λ (c : Clause). is_defined old c.name) new

abbrev pub with_new : List Clause → List Clause → List Clause
with_new old new = filter (λ (c : Clause). not (is_defined new c.name)) old ++ new

abbrev pub IsReplaced : List Clause → List Clause → Result (Vec Clause Global) Stop → Type 0
IsReplaced old new (Ok clauses) = (defines_all old new ≡ true) × (clauses.items ≡ with_new old new)
IsReplaced old new (Err (Unreadable NoDefinition)) = defines_all old new ≡ false
IsReplaced old new (Err NoMemory) = Unit {0}
IsReplaced old new (Err other) = ⊥

abbrev pub replaced_if : Bool → List Clause → Stock → Outcome (List Clause)
replaced_if true clauses now = made clauses now
replaced_if false clauses now = refused NoDefinition

-- ---- patterns and items of a file that inherits the namespace

abbrev mutual
  pub make : List ℕ → WrittenPattern → Stock → Outcome ℕ
  make ns (written.element class p) now = make ns p now >>= λ i. cell_made (cell.element (class_in ns class) i)
  make ns (written.attribute class p) now = make ns p now >>= λ i. cell_made (cell.attribute (class_in ns class) i)
  make ns (written.list p) now = make ns p now >>= λ i. cell_made (cell.listed i)
  make ns (written.mixed p)
      now = cell_made cell.any_text now >>= λ text then. make ns p then >>= λ i. cell_made (cell.joined sign.Interleave text i)
  make ns (written.ref name) now = cell_made (cell.ref name) now
  make ns (written.parent_ref name) now = cell_made (cell.parent_ref name) now
  make ns written.empty now = cell_made cell.empty now
  make ns written.any_text now = cell_made cell.any_text now
  make ns written.not_allowed now = cell_made cell.not_allowed now
  make ns (written.value type text) now = cell_made (cell.value type text) now
  make ns (written.typed type params) now = cell_made cell.not_allowed now >>= λ i. cell_made (cell.typed type params i)
  make ns (written.typed_but type params except) now = make ns except now >>= λ i. cell_made (cell.typed type params i)
  make ns (written.external reference) now = next_pattern now
  make ns (written.grammar items) now = make_items ns items now >>= λ clauses. cell_made (cell.grammar clauses)
  make ns (written.optional p) now = make ns p now >>= or_empty_made
  make ns (written.zero_or_more p) now = make ns p now >>= λ i then. cell_made (cell.one_or_more i) then >>= or_empty_made
  make ns (written.one_or_more p) now = make ns p now >>= λ i. cell_made (cell.one_or_more i)
  make ns (written.choice p q) now = make ns p now >>= λ i then. make ns q then >>= λ j. cell_made (cell.joined sign.Choice i j)
  make ns (written.group p q) now = make ns p now >>= λ i then. make ns q then >>= λ j. cell_made (cell.joined sign.Group i j)
  make ns (written.interleave p q) now = make ns p now >>= λ i then. make ns q then >>= λ j. cell_made (cell.joined sign.Interleave i j)

  pub make_item : List ℕ → WrittenItem → Stock → Outcome (List Clause)
  make_item ns (written.define name combine p) now = make ns p now >>= λ i. made (record { name = name; combine = combine; body = i } ∷ [])
  make_item ns (written.div items) now = make_items ns items now
  make_item ns (written.include reference replacements)
      now = next_grammar now >>= λ old then. make_anew ns replacements then >>= λ new. replaced_if (defines_all old new) (with_new old new)

  pub make_items : List ℕ → WrittenItems → Stock → Outcome (List Clause)
  make_items ns written.no_items now = made [] now
  make_items ns (written.item_then item items)
      now = make_item ns item now >>= λ first then. make_items ns items then >>= λ more. made (first ++ more)

  pub make_replacement : List ℕ → WrittenReplacement → Stock → Outcome (List Clause)
  make_replacement ns (written.define_anew name combine p)
      now = make ns p now >>= λ i. made (record { name = name; combine = combine; body = i } ∷ [])
  make_replacement ns (written.div_anew replacements) now = make_anew ns replacements now

  pub make_anew : List ℕ → WrittenReplacements → Stock → Outcome (List Clause)
  make_anew ns written.no_replacements now = made [] now
  make_anew ns (written.replacement_then replacement replacements)
      now = make_replacement ns replacement now >>= λ first then. make_anew ns replacements then >>= λ more. made (first ++ more)

-- definitions behind others
abbrev pub behind : List Clause → Outcome (List Clause) → Outcome (List Clause)
behind before outcome = outcome >>= λ clauses. made (before ++ clauses)

-- ---- patterns joined by a sign, by the list of them

abbrev pub none_made : Sign → Stock → Outcome ℕ
none_made sign.Choice now = cell_made cell.not_allowed now
none_made sign.Group now = cell_made cell.empty now
none_made sign.Interleave now = cell_made cell.empty now

-- the next pattern behind those that are joined so far, if there are some
abbrev pub make_next : List ℕ → Sign → Option ℕ → Pattern → Stock → Outcome ℕ
make_next ns by None next now = make ns (pattern_of next) now
make_next ns by (Some first) next now = make ns (pattern_of next) now >>= λ i. cell_made (cell.joined by first i)

-- and all behind it
abbrev pub make_behind : List ℕ → Sign → ℕ → List Pattern → Stock → Outcome ℕ
make_behind ns by first [] now = made first now
make_behind ns by first (next ∷ more) now = make_next ns by (Some first) next now >>= λ i. make_behind ns by i more

abbrev pub make_row : List ℕ → Sign → List Pattern → Stock → Outcome ℕ
make_row ns by [] now = none_made by now
make_row ns by (first ∷ more) now = make_next ns by None first now >>= λ i. make_behind ns by i more

-- ---- files

-- a pattern that is a whole file, and no grammar alone
abbrev pub lone_made : List ℕ → WrittenPattern → Stock → Outcome FilePiece
lone_made ns p now = make ns p now >>= λ root. made (of_pattern root)

-- a whole file
abbrev pub make_file : List ℕ → WrittenSurface → Stock → Outcome FilePiece
make_file ns (written.a_grammar items) now = make_items ns items now >>= λ clauses. made (of_grammar clauses)
make_file ns (written.a_pattern (written.grammar items)) now = make_items ns items now >>= λ clauses. made (of_grammar clauses)
make_file ns (written.a_pattern p) now = lone_made ns p now

-- it leaves its piece for what mentions it
abbrev pub file_made : Loaded → Stock → Outcome (Unit {0})
file_made file now = make_file file.inherited (surface_of file.surface)
    now >>= λ piece then. made tt (record { cells = then.cells; pieces = piece ∷ then.pieces })

-- files in order, each behind those that it mentions
abbrev pub files_made : List Loaded → Stock → Outcome (Unit {0})
files_made [] now = made tt now
files_made (file ∷ files) now = file_made file now >>= λ done. files_made files

abbrev pub nothing_made : Stock
nothing_made = record { cells = []; pieces = [] }

-- all of them, in one piece
abbrev pub whole_made_from : List Loaded → Stock → Outcome ℕ
whole_made_from files now = files_made files now >>= λ done. next_pattern

abbrev pub whole_made : List Loaded → Outcome ℕ
whole_made files = whole_made_from files nothing_made

-- a call answers it, unless memory runs out
abbrev pub MakesWhole : List Loaded → Result Whole SchemaFault → Type 0
MakesWhole files (Ok whole) = (left : List FilePiece)
    × (whole_made files ≡ made whole.root (record { cells = map cell_of whole.nodes.items; pieces = left }))
MakesWhole files (Err (fault.Unreadable why)) = whole_made files ≡ refused why
MakesWhole files (Err fault.NoMemory) = Unit {0}
MakesWhole files (Err other) = ⊥

-- the refusal for which nothing was composed
abbrev pub IsFaultOf : Stop → SchemaFault → Type 0
IsFaultOf (Unreadable why) made_of = made_of ≡ fault.Unreadable why
IsFaultOf NoMemory made_of = made_of ≡ fault.NoMemory
IsFaultOf NoPiece made_of = ⊥
