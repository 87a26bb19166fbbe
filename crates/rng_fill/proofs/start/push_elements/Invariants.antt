-- with those of the leaves that are left, the elements of all leaves are on the stack
use Rattle.std.proofs.Common.{◌≡◌, ◌≤◌, ◌++◌, map, reverse, length, take}
use Rattle.rng_cost.specs.Leaves.{patterns_of}
use Rattle.rng_fill.specs.declared.element.Task.TheVariants as task
use Rattle.rng_fill.specs.Sorted.{ref_leaves}
use Rattle.rng_fill.proofs.start.push_elements.Given as goal

abbrev pub invariant-loop-left : goal.invariant-loop-left
invariant-loop-left l = record {
  inside : l.left ≤ length l.leaves;
  pushed : l.tasks.items ++ reverse (map task.Element (ref_leaves (patterns_of (take l.left l.leaves))))
      ≡ l.initial.tasks.items ++ reverse (map task.Element (ref_leaves (patterns_of l.leaves)));
}

abbrev pub decreases-loop-left : goal.decreases-loop-left
decreases-loop-left l = l.left
