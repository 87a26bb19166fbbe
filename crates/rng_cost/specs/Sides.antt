-- Which side of each choice of a pattern is filled. Nothing here is needed to believe what leaves are.
use Rattle.std.specs.Prelude.{◌≡◌, ℕ, nat_le, Bool, List, [], ◌∷◌, ◌++◌, if◌then◌else◌}
use Rattle.rng_core.specs.Patterns.{Pattern, one_or_more, choice, group, interleave}
use Rattle.rng_cost.specs.Least.{least}
use Rattle.rng_cost.specs.Leaves.{leaves}

-- whether it is the first, of each choice in the order in which they are met
abbrev pub sides_of : List ℕ → Pattern → List Bool
sides_of costs (one_or_more p) = sides_of costs p
sides_of costs (choice p q) = nat_le (least costs p) (least costs q) ∷ (sides_of costs p ++ sides_of costs q)
sides_of costs (group p q) = sides_of costs p ++ sides_of costs q
sides_of costs (interleave p q) = sides_of costs p ++ sides_of costs q
sides_of costs _ = []

-- they were noted in front of others
abbrev pub NotesSides : List ℕ → Pattern → List Bool → List Bool → Type 0
NotesSides costs p old new = new ≡ sides_of costs p ++ old

-- the sides of a pattern's choices were taken, and its leaves added, if it is filled itself
pub record AddsLeaves (filled : Bool) (p : Pattern) (old new : List Bool) (before after : List Pattern) : Type 0 where
  pub adds : (costs : List ℕ) (rest : List Bool) → old ≡ sides_of costs p ++ rest
      → (new ≡ rest) × (after ≡ before ++ (if filled then leaves costs p else []))
