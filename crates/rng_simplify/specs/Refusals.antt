-- How a part of simplification refuses the schema that cells stand for.
use Rattle.std.specs.Prelude.{ℕ, List, map, Result, Ok, Err}
use Rattle.rng_simplify.specs.declared.compose.Whole.{Whole}
use Rattle.rng_simplify.specs.declared.fault.SchemaFault.{SchemaFault}
use Rattle.rng_simplify.specs.declared.fault.SchemaFault.TheVariants.{NoMemory, Unreadable}
use Rattle.rng_simplify.specs.Broken.{WholeIsBroken}
use Rattle.rng_simplify.specs.Cells.{Cell, cell_of}
use Rattle.rng_simplify.specs.Composed.{Composed}
use Rattle.rng_simplify.specs.CellMeanings.{Denotes}

-- the cells of a schema in one piece
abbrev pub cells_of : Whole → List Cell
cells_of whole = map cell_of whole.nodes.items

-- whatever the numbers of its elements, the schema is broken so; want of memory is free
abbrev pub IsRefusal : List Cell → ℕ → SchemaFault → Type 0
IsRefusal cells root NoMemory = Unit {0}
IsRefusal cells root (Unreadable why) = (number : ℕ → ℕ) (whole : Composed) → Denotes cells number root whole → WholeIsBroken whole why
IsRefusal cells root other = ⊥

-- this holds of the answer, or the schema is refused
abbrev pub OkOrRefused : {A : Type 0} → List Cell → ℕ → (A → Type 0) → Result A SchemaFault → Type 0
OkOrRefused cells root holds (Ok answer) = holds answer
OkOrRefused cells root holds (Err fault) = IsRefusal cells root fault
