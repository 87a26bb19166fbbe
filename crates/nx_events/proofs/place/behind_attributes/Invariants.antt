use Rattle.std.proofs.Common.{ℕ, List, length}
use Rattle.nx_events.specs.TagPlaces.{IsLeft}
use Rattle.nx_events.proofs.place.behind_attributes.Given as goal

abbrev pub invariant-loop-left : goal.invariant-loop-left
invariant-loop-left l = (left : List ℕ) → IsLeft l.bytes left → IsLeft l.rest left

abbrev pub decreases-loop-left : goal.decreases-loop-left
decreases-loop-left l = length l.rest
