-- So many lines further on from the place that was reached is the line that is looked for.
use Rattle.std.proofs.Common.{◌≡◌, ◌≤◌, length, drop}
use Rattle.nx_position.specs.Positions.{from_line}
use Rattle.nx_places.proofs.place.start_of_line.Given as goal

abbrev pub invariant-loop-lines : goal.invariant-loop-lines
invariant-loop-lines l = (l.at ≤ length l.text) × (from_line l.lines (drop l.at l.text) ≡ from_line l.line l.text)

abbrev pub decreases-loop-lines : goal.decreases-loop-lines
decreases-loop-lines l = l.lines
