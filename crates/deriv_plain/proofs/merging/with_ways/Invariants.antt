-- the ways that are left are still to be merged
use Rattle.std.proofs.Common.{◌≡◌}
use Rattle.rng_kept.specs.Merging.{with_ways}
use Rattle.deriv_plain.specs.Ways.{residual_of}
use Rattle.deriv_plain.proofs.merging.with_ways.Given as goal

abbrev pub invariant-loop-way : goal.invariant-loop-way
invariant-loop-way l =
    with_ways (residual_of l.all.items) (residual_of l.way-iterator.rest.items) ≡ with_ways (residual_of l.fn.ways.items) (residual_of l.fn.others.items)
