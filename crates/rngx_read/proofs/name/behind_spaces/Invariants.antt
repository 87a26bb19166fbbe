-- what is left has the same behind its white space
use Rattle.std.proofs.Common.{◌≡◌, length}
use Rattle.rngx_read.specs.Names.{behind_spaces}
use Rattle.rngx_read.proofs.name.behind_spaces.Given as goal

abbrev pub invariant-loop-first : goal.invariant-loop-first
invariant-loop-first l = behind_spaces l.rest ≡ behind_spaces l.text

abbrev pub decreases-loop-first : goal.decreases-loop-first
decreases-loop-first l = length l.rest
