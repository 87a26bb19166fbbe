use Rattle.std.proofs.Common.{◌-◌}
use Rattle.nx_events.specs.ByteClasses.{AllBetween, is_plain_or}
use Rattle.nx_events.proofs.plain.are_many_plain_or.Given as goal

abbrev pub invariant-loop-at : goal.invariant-loop-at
invariant-loop-at l = AllBetween (is_plain_or l.also) l.bytes 0 l.at

abbrev pub decreases-loop-at : goal.decreases-loop-at
decreases-loop-at l = l.last - l.at
