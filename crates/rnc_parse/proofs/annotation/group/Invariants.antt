use Rattle.std.proofs.Common.{◌≡◌, length, reverse}
use Rattle.rnc_parse.specs.ReadingAnnotations.{closed_at, group_at}
use Rattle.rnc_parse.proofs.annotation.group.Given as goal

abbrev pub invariant-loop-token : goal.invariant-loop-token
invariant-loop-token l = closed_at (reverse l.closers.items) l.cursor ≡ group_at l.fn.cursor

abbrev pub decreases-loop-token : goal.decreases-loop-token
decreases-loop-token l = length l.cursor
