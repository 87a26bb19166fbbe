use Rattle.std.proofs.Common.{◌≡◌, ◌≤◌, max, length}
use Rattle.rng_types.specs.TextMembers.{least_length}
use Rattle.rng_types.proofs.length_range.least_length.Given as goal

abbrev pub invariant-loop-facet : goal.invariant-loop-facet
invariant-loop-facet l = record { some : 1 ≤ l.least; same : max l.least (least_length l.left) ≡ least_length l.facets }

abbrev pub decreases-loop-facet : goal.decreases-loop-facet
decreases-loop-facet l = length l.left
