use Rattle.std.proofs.Common.{length}
use Rattle.nx_marks.specs.Joined.{seen}
use Rattle.nx_marks.proofs.Rejoining.{Rejoining}
use Rattle.nx_marks.proofs.rows.rejoin.Given as goal

abbrev pub invariant-loop-kept : goal.invariant-loop-kept
invariant-loop-kept g l =
    let m = g.A.Machine in
    Rejoining (m.is_state l.machine) (m.means l.machine) (m.rules l.machine) l.fn.kept (seen l.kept-inside.joined l.kept-inside.line)

abbrev pub decreases-loop-kept : goal.decreases-loop-kept
decreases-loop-kept g l = length (seen l.kept-inside.joined l.kept-inside.line).aside
