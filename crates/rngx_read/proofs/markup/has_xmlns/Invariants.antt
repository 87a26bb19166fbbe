-- it stands in what is left if it stands in all
use Rattle.std.proofs.Common.{◌≡◌, length}
use Rattle.rngx_read.specs.Marking.{has_xmlns}
use Rattle.rngx_read.proofs.markup.has_xmlns.Given as goal

abbrev pub invariant-loop-first : goal.invariant-loop-first
invariant-loop-first l = has_xmlns l.rest ≡ has_xmlns l.bytes

abbrev pub decreases-loop-first : goal.decreases-loop-first
decreases-loop-first l = length l.rest
