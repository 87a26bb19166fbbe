-- Texts of cells.
use Rattle.std.specs.Prelude.{ℕ, List, IsUtf8}
use Rattle.rng_core.specs.Soundness.{IsSoundClass}
use Rattle.rng_simplify.specs.Cells.{Cell}
use Rattle.rng_simplify.specs.Cells as cell
use Rattle.rng_simplify.specs.CellMeanings.{IsCell}

-- what is written in a cell is UTF-8
abbrev pub IsText : Cell → Type 0
IsText (cell.element class part) = IsSoundClass class
IsText (cell.attribute class part) = IsSoundClass class
IsText (cell.value type text) = IsUtf8 type.library × IsUtf8 type.name × IsUtf8 text
IsText (cell.typed type params part) = IsUtf8 type.library × IsUtf8 type.name
IsText c = Unit {0}

pub record AreTexts (cells : List Cell) : Type 0 where
  pub each_is : (i : ℕ) (c : Cell) → IsCell cells i c → IsText c
