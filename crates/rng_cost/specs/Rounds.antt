-- What a round over the contents does to costs. Nothing here is needed to believe what costs are.
use Rattle.std.specs.Prelude.{◌≡◌, ◌≤◌, ◌<◌, ℕ, Bool, true, false, List, length, Some, slice_get, set}
use Rattle.std.specs.List.{sum_by}
use Rattle.rng_core.specs.Patterns.{Pattern, Definition}
use Rattle.rng_cost.specs.Least.{cost_at, least, AreRight}

-- from a number on no definition has a content that costs less than it says
pub record AreSettledFrom (g : List Definition) (from : ℕ) (costs : List ℕ) : Type 0 where
  pub settled : (i : ℕ) (d : Definition) → from ≤ i → slice_get g i ≡ Some d → cost_at costs i ≤ least costs d.content

-- one look at the content of a number: its cost falls, or it costs no less than it says
abbrev pub Settles : List ℕ → List ℕ → ℕ → Pattern → Bool → Type 0
Settles old new number content true = (least old content < cost_at old number) × (new ≡ set old number (least old content))
Settles old new number content false = (cost_at old number ≤ least old content) × (new ≡ old)

-- what all costs are together
abbrev pub total : List ℕ → ℕ
total costs = sum_by (λ n. n) costs

-- a look at those from a number on: some cost falls, to one that is right, or each is settled
abbrev pub Falls : List Definition → ℕ → List ℕ → List ℕ → Bool → Type 0
Falls g from old new true = (AreRight g old → AreRight g new) × (total new < total old) × (length new ≡ length old)
Falls g from old new false = AreSettledFrom g from old × (new ≡ old)
