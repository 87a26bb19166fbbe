-- What a grammar's start reaches. Definitions that it doesn't reach are no part of the schema.
use Rattle.std.specs.Prelude.{◌≡◌, ℕ, List, Some, slice_get}
use Rattle.rng_core.specs.Patterns.{Pattern, Definition, ref}
use Rattle.rng_restrict.specs.Standing.{Stands}

-- a definition that a reference in the start names, or one in the content of a definition that is reached
pub data IsReached (start : Pattern) (defs : List Definition) : Definition → Type 0 where
  from_start : {i : ℕ} {d : Definition} → Stands (ref i) start → slice_get defs i ≡ Some d → IsReached start defs d
  from_content : {i : ℕ} {d e : Definition} →
      IsReached start defs e → Stands (ref i) e.content → slice_get defs i ≡ Some d → IsReached start defs d

-- the start has the fault, or the content of a definition that is reached
pub data Somewhere (HasFault : Pattern → Type 0) (start : Pattern) (defs : List Definition) : Type 0 where
  in_start : HasFault start → Somewhere HasFault start defs
  in_content : {d : Definition} → IsReached start defs d → HasFault d.content → Somewhere HasFault start defs
