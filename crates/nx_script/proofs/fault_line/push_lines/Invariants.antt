use Rattle.std.proofs.Common.{◌≡◌, ◌++◌, take}
use Rattle.nx_script.specs.FaultLines.{fault_lines}
use Rattle.nx_script.proofs.fault_line.push_lines.Given as goal

abbrev pub invariant-loop-fault : goal.invariant-loop-fault
invariant-loop-fault l = l.text.items ≡ l.fn.text.items ++ fault_lines (take l.fault-index l.faults)
