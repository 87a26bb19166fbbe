use Rattle.nx_events.specs.ByteClasses.{IsSameName}
use Rattle.nx_events.proofs.tag.are_same_by_bytes.Given as goal

abbrev pub invariant-loop-i : goal.invariant-loop-i
invariant-loop-i l = IsSameName l.a l.b 0 l.i
