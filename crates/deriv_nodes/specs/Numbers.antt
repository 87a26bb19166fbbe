-- Patterns by the numbers of their nodes.
use Rattle.std.specs.Prelude.{◌≡◌, ℕ, ◌<◌, ◌≤◌, List, length, slice_index_or}
use Rattle.rng_core.specs.Patterns.{Pattern, not_allowed}

-- the pattern of a number; notAllowed where there is no such node
abbrev pub at : List Pattern → ℕ → Pattern
at nodes i = slice_index_or nodes i not_allowed

-- nodes that were there stand where they stood, and are what they were: the old ones are a front of the new ones
pub record Later (old new : List Pattern) : Type 0 where
  pub grows : length old ≤ length new
  pub stays : (i : ℕ) → i < length old → at new i ≡ at old i

-- the number of a node that stands for this
pub record IsAt (nodes : List Pattern) (p : Pattern) (i : ℕ) : Type 0 where
  pub node : i < length nodes
  pub meaning : at nodes i ≡ p

-- no two nodes stand for the same
abbrev pub AreSingle : List Pattern → Type 0
AreSingle nodes = (i j : ℕ) → i < length nodes → j < length nodes → at nodes i ≡ at nodes j → i ≡ j
