use Rattle.nx_events.specs.ByteClasses.{AllBetween}
use Rattle.nx_events.specs.PlainNames.{is_plain_further}
use Rattle.nx_events.proofs.qname.are_plain_further.Given as goal

abbrev pub invariant-loop-b : goal.invariant-loop-b
invariant-loop-b l = AllBetween is_plain_further l.bytes 0 l.b-index
