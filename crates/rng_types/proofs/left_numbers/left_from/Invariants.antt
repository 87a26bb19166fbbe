use Rattle.std.proofs.Common.{◌≡◌, false}
use Rattle.std.specs.Prelude.{pos, ◌+ℤ◌}
use Rattle.rng_types.specs.Offsets.{whole_number}
use Rattle.rng_types.specs.NumberMembers.{some_below, is_number_left, over}
use Rattle.rng_types.proofs.left_numbers.left_from.Given as goal

abbrev pub invariant-loop-above : goal.invariant-loop-above
invariant-loop-above l = some_below (λ i. is_number_left l.facets l.excepts (over 0 (whole_number l.low +ℤ pos i))) l.above ≡ false
