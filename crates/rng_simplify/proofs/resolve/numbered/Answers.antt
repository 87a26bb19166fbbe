use Rattle.std.proofs.Common.{refl, arith}
use Rattle.rng_simplify.specs.Cells.{cell_of}
use Rattle.rng_simplify.proofs.Nodes.{cell_there}
use Rattle.rng_simplify.proofs.Numbers.{number_more}
use Rattle.rng_simplify.proofs.resolve.numbered.Goals as goal

pub loop-i-preserved : goal.loop-i-preserved
loop-i-preserved c =
    number_more _ (cell_of c.index-nodes-i.result) refl (cell_there c.args.nodes.now c.loop-i.i c.index-nodes-i.result (omega arith) c.index-nodes-i.is) (omega (arith, c.loop-i.invariant.all_links, c.requires.known)) c.loop-i.invariant c.in_ok-number.ensures
