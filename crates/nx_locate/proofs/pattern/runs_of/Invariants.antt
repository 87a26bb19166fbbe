use Rattle.std.proofs.Common.{length}
use Rattle.nx_locate.proofs.Stretches.{GoesOn}
use Rattle.nx_locate.proofs.pattern.runs_of.Given as goal

abbrev pub invariant-loop-star : goal.invariant-loop-star
invariant-loop-star l = GoesOn l.pattern l.text l.runs l.rest l.left

abbrev pub decreases-loop-star : goal.decreases-loop-star
decreases-loop-star l = length l.rest
