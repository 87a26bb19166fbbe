-- Pieces for the files that are mentioned, and what is made with them: the schema in one piece.
use Rattle.std.specs.Prelude.{◌≡◌, ℕ, List, [], ◌∷◌, ◌++◌, Some, None}
use Rattle.nx_host.specs.Files.{FileMap}
use Rattle.rnc_parse.specs.Written.{WrittenPattern, WrittenItems, WrittenSurface}
use Rattle.rng_simplify.specs.declared.node.Clause.{Clause}
use Rattle.rng_simplify.specs.Cells.{Cell}
use Rattle.rng_simplify.specs.Composed.{Composed, Clauses}
use Rattle.rng_simplify.specs.ComposedFiles.{Context, Opens, grammar_items, Composes, ComposesFile, Gathers}
use Rattle.rng_simplify.specs.CellMeanings.{IsCell, Denotes, DenoteAll}
use Rattle.rng_simplify.specs.MadeCells.{Stock, made, FilePiece, of_pattern, of_grammar, make}
use Rattle.rng_simplify.specs.References.{Mention, reference_of, mentions}

-- each cell of the one list is that of the other
pub record Grows (old new : List Cell) : Type 0 where
  pub stays : (i : ℕ) (c : Cell) → IsCell old i c → IsCell new i c

-- ---- pieces for what is mentioned

-- the piece is the file that the mention leads to
pub data Supply (files : FileMap) (number : ℕ → ℕ) (context : Context) (cells : List Cell) (mention : Mention) : FilePiece → Type 0 where
  a_pattern_piece : {inner : Context} {surface : WrittenSurface} {root : ℕ} {q : Composed} →
      Opens files context (reference_of mention) inner surface → grammar_items surface ≡ None → ComposesFile files inner surface q →
      Denotes cells number root q → Supply files number context cells mention (of_pattern root)
  a_grammar_piece : {inner : Context} {surface : WrittenSurface} {items : WrittenItems} {clauses : List Clause} {all : Clauses} →
      Opens files context (reference_of mention) inner surface → grammar_items surface ≡ Some items → Gathers files inner items all →
      DenoteAll cells number clauses all → Supply files number context cells mention (of_grammar clauses)

pub data Supplies (files : FileMap) (number : ℕ → ℕ) (context : Context) (cells : List Cell) : List Mention → List FilePiece → Type 0 where
  nothing_more : {pieces : List FilePiece} → Supplies files number context cells [] pieces
  one_further : {mention : Mention} {more : List Mention} {piece : FilePiece} {pieces : List FilePiece} →
      Supply files number context cells mention piece → Supplies files number context cells more pieces →
      Supplies files number context cells (mention ∷ more) (piece ∷ pieces)

-- the cell of this number stands for the pattern in one piece; what is left of the pieces is for what is mentioned behind
pub record IsMadeOf (files : FileMap) (number : ℕ →
    ℕ) (context : Context) (p : WrittenPattern) (more : List Mention) (i : ℕ) (old new : Stock) : Type 0 where
  pub whole : Composed
  pub composes : Composes files context p whole
  pub denotes : Denotes new.cells number i whole
  pub grows : Grows old.cells new.cells
  pub left : Supplies files number context new.cells more new.pieces

-- a pattern that is made of pieces for what it mentions stands for that pattern in one piece
abbrev pub PatternsAreComposed : Type 0
PatternsAreComposed = (files : FileMap) (number : ℕ →
    ℕ) (context : Context) (p : WrittenPattern) (more : List Mention) (i : ℕ) (old new : Stock) →
    Supplies files number context old.cells (mentions p ++ more) old.pieces → make context.inherited p old ≡ made i new →
    IsMadeOf files number context p more i old new
