use Rattle.std.proofs.Common.{arith}
use Rattle.rng_fill.specs.Contents.{definitions_in}
use Rattle.rng_finish.specs.Fit.{FitsLeaf}
use Rattle.rng_finish.proofs.Adding.{no_elements, leaf_at, elements_to, elements_all}
use Rattle.rng_finish.proofs.children.write_elements.Goals as goal

pub loop-leaf-init : goal.loop-leaf-init
loop-leaf-init c = record { added = no_elements (definitions_in c.args.contents.now) c.args.moves.now; heads = c.requires.heads }

pub write_element-requires-clause-fits : goal.write_element-requires-clause-fits
write_element-requires-clause-fits c =
    leaf_at (FitsLeaf (definitions_in c.args.contents.now)) c.args.leaves.now c.loop-leaf.leaf-index c.leaf-item.result (omega arith)
    c.leaf-item.is c.requires.fits

pub loop-leaf-preserved : goal.loop-leaf-preserved
loop-leaf-preserved c = record {
  added = elements_to c.args.leaves.now c.loop-leaf.leaf-index c.leaf-item.result (omega arith) c.leaf-item.is c.loop-leaf.invariant.added
      c.in_ok-write_element.ensures.added;
  heads = c.in_ok-write_element.ensures.heads;
}

pub returns-clause-added : goal.returns-clause-added
returns-clause-added c =
    elements_all c.args.leaves.now c.loop-leaf.leaf-index (omega (arith, c.loop-leaf.auto.leaf-index-end, c.loop-leaf-test.false))
    c.loop-leaf.invariant.added
