use Rattle.nx_events.specs.ByteClasses.{AllBetween, is_plain_or}
use Rattle.nx_events.proofs.plain.are_few_plain_or.Given as goal

abbrev pub invariant-loop-b : goal.invariant-loop-b
invariant-loop-b l = AllBetween (is_plain_or l.also) l.bytes 0 l.b-index
