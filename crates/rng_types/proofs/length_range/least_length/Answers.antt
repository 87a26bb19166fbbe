use Rattle.std.proofs.Common.{arith}
use Rattle.rng_types.proofs.Allowed.{least_some}
use Rattle.rng_types.proofs.length_range.least_length.Goals as goal

pub loop-facet-init : goal.loop-facet-init
loop-facet-init c = record { some = omega arith; same = omega (arith, least_some c.args.facets.now) }
