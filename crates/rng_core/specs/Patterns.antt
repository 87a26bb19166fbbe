-- Patterns of the simple form, without the memory that they stand in: ISO/IEC 19757-2, section 9.3.
use Rattle.std.specs.Prelude.{ℕ, List}
use Rattle.rng_types.specs.declared.datatype.Datatype.{Datatype}
use Rattle.rng_types.specs.declared.datatype.Except.{Except}
use Rattle.rng_core.specs.Names.{Class}

pub data Pattern : Type 0 where
  not_allowed : Pattern
  empty : Pattern
  any_text : Pattern
  typed : Datatype → List Except → Pattern
  literal : Datatype → List ℕ → Pattern
  listed : Pattern → Pattern
  attribute : Class → Pattern → Pattern
  ref : ℕ → Pattern
  one_or_more : Pattern → Pattern
  choice : Pattern → Pattern → Pattern
  group : Pattern → Pattern → Pattern
  interleave : Pattern → Pattern → Pattern

-- an element's names, and its content
pub record Definition : Type 0 where
  pub class : Class
  pub content : Pattern

-- what a schema stands for: a start, and the definitions that references name
pub record Language : Type 0 where
  pub start : Pattern
  pub definitions : List Definition
