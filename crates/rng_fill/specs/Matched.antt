-- What the leaves of a pattern match, put together.
use Rattle.std.specs.Prelude.{ℕ, List, [], ◌∷◌}
use Rattle.nx_base.specs.Trees.{Attribute, Children, nil}
use Rattle.rng_core.specs.Patterns.{Pattern, Definition}
use Rattle.rng_core.specs.Matching.{Split, InOrder, Matches}
use Rattle.rng_cost.specs.Leaves.{leaves}

-- attributes and children that are those of these patterns, one after another
pub data AreMatched (g : List Definition) : List Pattern → List Attribute → Children → Type 0 where
  none_matched : AreMatched g [] [] nil
  one_matched : {p : Pattern} {ps : List Pattern} {a a1 a2 : List Attribute} {c c1 c2 : Children} → Split a a1 a2 → InOrder c c1 c2
      → Matches g p a1 c1 → AreMatched g ps a2 c2 → AreMatched g (p ∷ ps) a c

-- the leaves of a pattern, by whichever costs, are matched only by what it matches
abbrev pub LeavesMatch : Type 0
LeavesMatch = (g : List Definition) (costs : List ℕ) (p : Pattern) (a : List Attribute) (c : Children) → AreMatched g (leaves costs p) a c
    → Matches g p a c
