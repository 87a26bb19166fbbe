-- the pairs that are left decide
use Rattle.std.proofs.Common.{◌≡◌, length}
use Rattle.rngx_read.specs.Names.{last_bound}
use Rattle.rngx_read.proofs.declarations.last_in.Given as goal

abbrev pub invariant-pairs : goal.invariant-pairs
invariant-pairs l = last_bound l.rest l.prefix ≡ last_bound l.pairs l.prefix

abbrev pub decreases-pairs : goal.decreases-pairs
decreases-pairs l = length l.rest
