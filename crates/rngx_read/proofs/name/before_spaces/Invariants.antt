-- what is left has the same before its white space
use Rattle.std.proofs.Common.{◌≡◌, length}
use Rattle.rngx_read.specs.Names.{before_spaces}
use Rattle.rngx_read.proofs.name.before_spaces.Given as goal

abbrev pub invariant-loop-last : goal.invariant-loop-last
invariant-loop-last l = before_spaces l.rest ≡ before_spaces l.text

abbrev pub decreases-loop-last : goal.decreases-loop-last
decreases-loop-last l = length l.rest
