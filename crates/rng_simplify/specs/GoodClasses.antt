-- Name classes that no schema may have, in a schema in one piece.
use Rattle.std.specs.Prelude.{◌≡◌, ℕ, false, List, Result, Ok, Err}
use Rattle.rng_simplify.specs.declared.fault.SchemaFault.{SchemaFault}
use Rattle.rng_simplify.specs.Cells.{Cell}
use Rattle.rng_simplify.specs.Cells as cell
use Rattle.rng_simplify.specs.Classes.{has_bad_except, names_declarations, names_declarations_of_attribute}
use Rattle.rng_simplify.specs.CellMeanings.{IsCell}
use Rattle.rng_simplify.specs.JudgedClasses.{JudgesElementClass, JudgesAttributeClass}
use Rattle.rng_simplify.specs.NodePlaces.{IsStanding}

-- a node's class is passed, or refused for a cause that it has
abbrev pub JudgesCell : {A : Type 0} → Cell → Result A SchemaFault → Type 0
JudgesCell (cell.element class part) result = JudgesElementClass class result
JudgesCell (cell.attribute class part) result = JudgesAttributeClass class result
JudgesCell c (Ok done) = Unit {0}
JudgesCell c (Err fault) = ⊥

-- a schema may have a node with this class
abbrev pub IsGood : Cell → Type 0
IsGood (cell.element class part) = (has_bad_except class ≡ false) × (names_declarations class ≡ false)
IsGood (cell.attribute class part) = (has_bad_except class ≡ false) × (names_declarations_of_attribute class ≡ false)
IsGood c = Unit {0}

-- so it is with the node of this number, if it stands in the schema
abbrev pub IsGoodAt : List Cell → ℕ → ℕ → Type 0
IsGoodAt cells root i = (c : Cell) → IsStanding cells root i → IsCell cells i c → IsGood c

-- and with all
abbrev pub AreGood : List Cell → ℕ → Type 0
AreGood cells root = (i : ℕ) → IsGoodAt cells root i
