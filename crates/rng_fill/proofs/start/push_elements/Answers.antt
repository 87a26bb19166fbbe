use Rattle.std.proofs.Common.{◌++◌, map, reverse, arith}
use Rattle.rng_cost.specs.Leaves.{patterns_of}
use Rattle.rng_fill.specs.declared.element.Task.TheVariants as task
use Rattle.rng_fill.specs.Sorted.{ref_leaves}
use Rattle.rng_fill.proofs.Adding.{pushed_step}
use Rattle.rng_fill.proofs.start.push_elements.Goals as goal

pub loop-left-preserved : goal.loop-left-preserved
loop-left-preserved c = record {
  inside = omega arith;
  pushed = pushed_step c.args.leaves.now c.loop-left.left _ c.index-leaves-left.result c.loop-left.tasks.items c.push_if_element.new.tasks.items
      (c.args.tasks.now.items ++ reverse (map task.Element (ref_leaves (patterns_of c.args.leaves.now))))
      (omega arith) (omega arith) c.index-leaves-left.is c.in_ok-push_if_element.ensures c.loop-left.invariant.pushed;
}
