use Rattle.std.proofs.Common.{◌≡◌, ◌++◌, take, length}
use Rattle.nx_events.specs.Among.{faults_among}
use Rattle.nx_events.proofs.bare.push_faults.Given as goal

abbrev pub invariant-loop-item : goal.invariant-loop-item
invariant-loop-item l = (l.len ≡ length l.fn.faults) × (l.faults ≡ l.fn.faults ++ faults_among (take l.item-index l.items))
