-- The line ends behind the place that was reached, too.
use Rattle.std.proofs.Common.{◌≡◌, ◌-◌, ◌≤◌, length, drop}
use Rattle.nx_position.specs.Positions.{behind_line}
use Rattle.nx_places.proofs.place.behind_line.Given as goal

abbrev pub invariant-loop-here : goal.invariant-loop-here
invariant-loop-here l = (l.here ≤ length l.text) × (behind_line (drop l.here l.text) ≡ behind_line (drop l.at l.text))

abbrev pub decreases-loop-here : goal.decreases-loop-here
decreases-loop-here l = length l.text - l.here
