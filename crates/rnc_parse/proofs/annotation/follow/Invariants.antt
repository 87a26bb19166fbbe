use Rattle.std.proofs.Common.{◌≡◌, length}
use Rattle.rnc_parse.specs.ReadingAnnotations.{follow_at}
use Rattle.rnc_parse.proofs.annotation.follow.Given as goal

abbrev pub invariant-loop-alloc : goal.invariant-loop-alloc
invariant-loop-alloc l = follow_at l.cursor ≡ follow_at l.fn.cursor

abbrev pub decreases-loop-alloc : goal.decreases-loop-alloc
decreases-loop-alloc l = length l.cursor
