use Rattle.std.proofs.Common.{arith}
use Rattle.rng_fill.proofs.Adding.{adds_nothing, attributes_more, filling_at}
use Rattle.rng_fill.proofs.attributes.write_attributes.Goals as goal

pub loop-leaf-init : goal.loop-leaf-init
loop-leaf-init c = adds_nothing c.args.moves.now

pub write_if_attribute-requires : goal.write_if_attribute-requires
write_if_attribute-requires c =
    filling_at c.args.leaves.now c.loop-leaf.leaf-index c.leaf-item.result (omega arith) c.leaf-item.is c.requires

pub loop-leaf-preserved : goal.loop-leaf-preserved
loop-leaf-preserved c =
    attributes_more c.args.leaves.now c.loop-leaf.leaf-index c.leaf-item.result (omega arith) c.leaf-item.is c.loop-leaf.invariant
    c.in_ok-write_if_attribute.ensures
