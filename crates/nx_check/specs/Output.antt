-- An output, as a run sees it.
use Rattle.std.specs.Prelude.{ℕ, List, Option}

-- what an output tells, and how many writes it has failed
pub record OutState : Type 0 where
  pub bytes : Option (List ℕ)
  pub faults : ℕ

abbrev pub out_state : Option (List ℕ) → ℕ → OutState
out_state bytes faults = record { bytes = bytes; faults = faults }
