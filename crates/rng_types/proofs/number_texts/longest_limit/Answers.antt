use Rattle.std.proofs.Common.{arith}
use Rattle.rng_types.proofs.NumbersLeft.{longer}
use Rattle.rng_types.proofs.number_texts.longest_limit.Goals as goal

pub loop-facet-preserved : goal.loop-facet-preserved
loop-facet-preserved c =
    longer c.args.facets.now c.loop-facet.facet-index c.facet-item.result c.loop-facet.longest c.limit_length.result c.max-longest.result c.loop-facet-test.true c.facet-item.is
    (omega (arith, c.max-longest.ensures)) (omega (arith, c.max-longest.ensures)) c.loop-facet.invariant c.limit_length.ensures
