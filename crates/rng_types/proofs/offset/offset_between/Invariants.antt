use Rattle.std.proofs.Common.{◌≡◌, ◌-◌, length, take}
use Rattle.std.specs.Str.Parse.{digits_value}
use Rattle.rng_types.specs.Offsets.{offset_digits}
use Rattle.rng_types.proofs.offset.offset_between.Given as goal

abbrev pub invariant-loop-left : goal.invariant-loop-left
invariant-loop-left l = l.offset ≡ offset_digits (digits_value 10 (take (length l.plus - l.left) l.plus)) (digits_value 10 (take (length l.minus - l.left) l.minus))

abbrev pub decreases-loop-left : goal.decreases-loop-left
decreases-loop-left l = l.left
