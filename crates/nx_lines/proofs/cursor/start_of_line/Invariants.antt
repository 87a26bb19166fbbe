use Rattle.std.proofs.Common.{◌≡◌, ◌≤◌}
use Rattle.nx_position.specs.Positions.{lines_ended}
use Rattle.nx_lines.proofs.cursor.start_of_line.Given as goal

abbrev pub invariant-loop-start : goal.invariant-loop-start
invariant-loop-start l = (l.start ≤ l.at) × (lines_ended l.start l.text ≡ lines_ended l.at l.text)

abbrev pub decreases-loop-start : goal.decreases-loop-start
decreases-loop-start l = l.start
