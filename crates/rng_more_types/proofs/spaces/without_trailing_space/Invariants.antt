use Rattle.std.proofs.Common.{◌≡◌, length}
use Rattle.rng_more_types.specs.Spaces.{without_trailing}
use Rattle.rng_more_types.specs.Spaces.{is_space}
use Rattle.rng_more_types.proofs.spaces.without_trailing_space.Given as goal

abbrev pub invariant-loop-last : goal.invariant-loop-last
invariant-loop-last l = without_trailing is_space l.left ≡ without_trailing is_space l.text

abbrev pub decreases-loop-last : goal.decreases-loop-last
decreases-loop-last l = length l.left
