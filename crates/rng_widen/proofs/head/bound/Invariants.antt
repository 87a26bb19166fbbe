-- what is left binds the prefix to the same
use Rattle.std.proofs.Common.{◌≡◌, length}
use Rattle.rng_widen.specs.CompactHead.{bound_from}
use Rattle.rng_widen.specs.declared.head.Head.TheVariants as heads
use Rattle.rng_widen.proofs.head.bound.Given as goal

abbrev pub invariant-tokens : goal.invariant-tokens
invariant-tokens l = bound_from l.prefix l.head l.rest ≡ bound_from l.prefix heads.Before l.file

abbrev pub decreases-tokens : goal.decreases-tokens
decreases-tokens l = length l.rest
