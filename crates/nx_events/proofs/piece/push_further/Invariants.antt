use Rattle.std.proofs.Common.{◌≡◌, ◌++◌, length}
use Rattle.nx_events.specs.Strings.{string_of}
use Rattle.nx_events.proofs.piece.push_further.Given as goal

abbrev pub invariant-loop-rest : goal.invariant-loop-rest
invariant-loop-rest l = l.out.items ++ string_of l.reading l.rest ≡ l.initial.out.items ++ string_of l.reading l.bytes

abbrev pub decreases-loop-rest : goal.decreases-loop-rest
decreases-loop-rest l = length l.rest
