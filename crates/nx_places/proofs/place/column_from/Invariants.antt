-- So many columns further on from the place that was reached is the column that is looked for.
use Rattle.std.proofs.Common.{◌≡◌, ◌+◌, ◌-◌, ◌≤◌, length, drop}
use Rattle.nx_position.specs.Positions.{bytes_to, content}
use Rattle.nx_places.proofs.place.column_from.Given as goal

abbrev pub invariant-loop-at : goal.invariant-loop-at
invariant-loop-at l =
    (l.at ≤ length l.text)
    × (l.at + bytes_to l.encoding l.left (content (drop l.at l.text)) ≡ l.start + bytes_to l.encoding l.column (content (drop l.start l.text)))

abbrev pub decreases-loop-at : goal.decreases-loop-at
decreases-loop-at l = length l.text - l.at
