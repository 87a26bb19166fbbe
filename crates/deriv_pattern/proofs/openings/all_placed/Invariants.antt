-- those that are made, with those that are still to come, are all
use Rattle.std.proofs.Common.{◌≡◌, ◌++◌, map}
use Rattle.std.specs.Vec.Iter.{into_iter_items}
use Rattle.rng_core.specs.Meaning.{pattern_of}
use Rattle.deriv_pattern.specs.Opened.{openings_of, placed}
use Rattle.deriv_pattern.proofs.openings.all_placed.Given as goal

abbrev pub invariant-loop-one : goal.invariant-loop-one
invariant-loop-one l =
    openings_of l.made.items ++ map (placed l.place (pattern_of l.side)) (openings_of (into_iter_items l.one-iterator))
    ≡ map (placed l.place (pattern_of l.side)) (openings_of l.fn.opened.items)
