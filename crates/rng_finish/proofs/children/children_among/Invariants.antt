-- what was found is that among the first leaves
use Rattle.std.proofs.Common.{◌≡◌, take}
use Rattle.rng_cost.specs.Leaves.{patterns_of}
use Rattle.rng_finish.specs.Filled.{child_leaves}
use Rattle.rng_finish.proofs.children.children_among.Given as goal

abbrev pub invariant-loop-leaf : goal.invariant-loop-leaf
invariant-loop-leaf l = patterns_of l.found ≡ child_leaves (patterns_of (take l.leaf-index l.leaves))
