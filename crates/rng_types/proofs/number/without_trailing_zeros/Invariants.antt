use Rattle.std.proofs.Common.{◌≡◌, length}
use Rattle.rng_types.specs.Numbers.{without_trailing_zeros}
use Rattle.rng_types.proofs.number.without_trailing_zeros.Given as goal

abbrev pub invariant-loop-last : goal.invariant-loop-last
invariant-loop-last l = without_trailing_zeros l.left ≡ without_trailing_zeros l.digits

abbrev pub decreases-loop-last : goal.decreases-loop-last
decreases-loop-last l = length l.left
