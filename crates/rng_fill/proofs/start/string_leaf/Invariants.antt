-- none of the first leaves is that of a string
use Rattle.std.proofs.Common.{◌≡◌, [], take}
use Rattle.rng_cost.specs.Leaves.{patterns_of}
use Rattle.rng_fill.specs.Sorted.{string_leaves}
use Rattle.rng_fill.proofs.start.string_leaf.Given as goal

abbrev pub invariant-loop-leaf : goal.invariant-loop-leaf
invariant-loop-leaf l = string_leaves (patterns_of (take l.leaf-index l.leaves)) ≡ []
