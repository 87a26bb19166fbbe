-- so far the attributes of the first leaves were added
use Rattle.std.proofs.Common.{take}
use Rattle.rng_cost.specs.Leaves.{patterns_of}
use Rattle.rng_fill.specs.Doing.{AddsAttributes}
use Rattle.rng_fill.specs.Sorted.{attribute_leaves}
use Rattle.rng_finish.proofs.attributes.write_attributes.Given as goal

abbrev pub invariant-loop-leaf : goal.invariant-loop-leaf
invariant-loop-leaf l = AddsAttributes (attribute_leaves (patterns_of (take l.leaf-index l.leaves))) l.initial.moves l.moves
