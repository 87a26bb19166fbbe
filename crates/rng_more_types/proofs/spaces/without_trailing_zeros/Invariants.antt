use Rattle.std.proofs.Common.{◌≡◌, length}
use Rattle.rng_more_types.specs.Spaces.{without_trailing}
use Rattle.rng_more_types.specs.Literals.{is_zero_digit}
use Rattle.rng_more_types.proofs.spaces.without_trailing_zeros.Given as goal

abbrev pub invariant-loop-last : goal.invariant-loop-last
invariant-loop-last l = without_trailing is_zero_digit l.left ≡ without_trailing is_zero_digit l.digits

abbrev pub decreases-loop-last : goal.decreases-loop-last
decreases-loop-last l = length l.left
