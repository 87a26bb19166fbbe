use Rattle.std.proofs.Common.{arith}
use Rattle.rng_finish.specs.Fit.{HasSoundValue}
use Rattle.rng_finish.proofs.Adding.{adds_no_attribute, leaf_at, attributes_to}
use Rattle.rng_finish.proofs.attributes.write_attributes.Goals as goal

pub loop-leaf-init : goal.loop-leaf-init
loop-leaf-init c = adds_no_attribute c.args.moves.now

pub write_if_attribute-requires : goal.write_if_attribute-requires
write_if_attribute-requires c =
    leaf_at HasSoundValue c.args.leaves.now c.loop-leaf.leaf-index c.leaf-item.result (omega arith) c.leaf-item.is c.requires

pub loop-leaf-preserved : goal.loop-leaf-preserved
loop-leaf-preserved c =
    attributes_to c.args.leaves.now c.loop-leaf.leaf-index c.leaf-item.result (omega arith) c.leaf-item.is c.loop-leaf.invariant
    c.in_ok-write_if_attribute.ensures
