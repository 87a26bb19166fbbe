use Rattle.std.proofs.Common.{◌≡◌, ◌<◌, ◌+◌, ℕ, false}
use Rattle.rng_types.specs.Numbers.{number_of}
use Rattle.rng_types.specs.NumberMembers.{is_number_left}
use Rattle.rng_types.specs.Giving.{pointed, extended}
use Rattle.rng_types.proofs.left_numbers.left_beyond.Given as goal

abbrev pub invariant-loop-number : goal.invariant-loop-number
invariant-loop-number l = (i : ℕ) → i < l.number → is_number_left l.facets l.excepts (number_of (extended (pointed l.base) l.zeros (i + 1))) ≡ false
