-- the pairs so far and those that are left are all of them
use Rattle.std.proofs.Common.{◌≡◌, ◌++◌, length}
use Rattle.nx_events.specs.InForce.{pairs_of}
use Rattle.nx_events.proofs.in_force.push_pairs.Given as goal

abbrev pub invariant-pairs : goal.invariant-pairs
invariant-pairs l = l.names ++ pairs_of l.rest ≡ l.fn.names ++ pairs_of l.pairs

abbrev pub decreases-pairs : goal.decreases-pairs
decreases-pairs l = length l.rest
