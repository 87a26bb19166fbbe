use Rattle.std.proofs.Common.{◌≡◌, ◌++◌, map, take, drop}
use Rattle.nx_base.specs.Shifting.{moved_fault}
use Rattle.nx_base.proofs.fault.Sequence+Fault.shift.Given as goal

abbrev pub invariant-loop-fault : goal.invariant-loop-fault
invariant-loop-fault l = l.fault-items ≡ map (moved_fault l.edit) (take l.fault-index l.fn.self) ++ drop l.fault-index l.fn.self
