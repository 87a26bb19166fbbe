use Rattle.std.proofs.Common.{◌≡◌, ◌++◌, length}
use Rattle.nx_script.specs.FaultLines.{fault_lines}
use Rattle.nx_script.proofs.Writing.{IsWritten}
use Rattle.nx_script.proofs.fault_line.write_lines.Given as goal

abbrev pub invariant-loop-left : goal.invariant-loop-left
invariant-loop-left g l =
    IsWritten (g.O.Out.told l.fn.out) (l.fn.text.items ++ fault_lines l.fn.faults) (l.text.items ++ fault_lines l.left) (g.O.Out.told l.out)
    × (g.O.Out.faults l.out ≡ g.O.Out.faults l.fn.out)

abbrev pub decreases-loop-left : goal.decreases-loop-left
decreases-loop-left g l = length l.left
