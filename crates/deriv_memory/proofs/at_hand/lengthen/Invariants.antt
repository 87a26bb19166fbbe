use Rattle.std.proofs.Common.{suc, ◌-◌}
use Rattle.deriv_memory.specs.AtHand.{ReadAlike}
use Rattle.deriv_memory.proofs.at_hand.lengthen.Given as goal

abbrev pub invariant-loop-free : goal.invariant-loop-free
invariant-loop-free g l = ReadAlike l.free l.initial.list.items l.list.items

abbrev pub decreases-loop-free : goal.decreases-loop-free
decreases-loop-free g l = suc l.last - l.list.len
