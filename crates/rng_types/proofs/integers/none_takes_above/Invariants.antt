use Rattle.std.proofs.Common.{◌≡◌, true, take}
use Rattle.std.specs.Prelude.{pos, ◌+ℤ◌, not}
use Rattle.std.specs.List.{list_all}
use Rattle.rng_types.specs.Offsets.{whole_number}
use Rattle.rng_types.specs.NumberMembers.{takes_number, over}
use Rattle.rng_types.proofs.integers.none_takes_above.Given as goal

abbrev pub invariant-loop-except : goal.invariant-loop-except
invariant-loop-except l = list_all (λ except. not (takes_number (over 0 (whole_number l.low +ℤ pos l.above)) except)) (take l.except-index l.excepts) ≡ true
