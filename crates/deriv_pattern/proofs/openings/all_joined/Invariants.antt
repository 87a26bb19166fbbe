-- the openings so far with those that are still to come are the openings of both lists
use Rattle.std.proofs.Common.{◌≡◌}
use Rattle.std.specs.Vec.Iter.{into_iter_items}
use Rattle.rng_kept.specs.Openings.{joined}
use Rattle.deriv_pattern.specs.Opened.{openings_of}
use Rattle.deriv_pattern.proofs.openings.all_joined.Given as goal

abbrev pub invariant-loop-one : goal.invariant-loop-one
invariant-loop-one l =
    joined (openings_of l.opened.items) (openings_of (into_iter_items l.one-iterator))
    ≡ joined (openings_of l.fn.opened.items) (openings_of l.fn.more.items)
