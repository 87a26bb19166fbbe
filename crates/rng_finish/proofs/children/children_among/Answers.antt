use Rattle.std.proofs.Common.{arith}
use Rattle.rng_finish.proofs.Adding.{children_more}
use Rattle.rng_finish.proofs.children.children_among.Goals as goal

pub loop-leaf-preserved : goal.loop-leaf-preserved
loop-leaf-preserved c =
    children_more c.args.leaves.now c.loop-leaf.leaf-index c.leaf-item.result (omega arith) c.leaf-item.is c.loop-leaf.invariant
    c.in_ok-add_child.ensures
