use Rattle.std.proofs.Common.{◌≡◌, true}
use Rattle.std.specs.Prelude.{pos, ◌+ℤ◌}
use Rattle.rng_types.specs.Numbers.{is_integer}
use Rattle.rng_types.specs.Offsets.{whole_number}
use Rattle.rng_types.proofs.successor.plus.Given as goal

abbrev pub invariant-loop-step : goal.invariant-loop-step
invariant-loop-step l = record { integer : is_integer l.text ≡ true; value : whole_number l.text ≡ whole_number l.literal +ℤ pos l.step }
