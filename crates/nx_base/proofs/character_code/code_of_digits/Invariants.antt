use Rattle.std.proofs.Common.{◌≡◌, min, take}
use Rattle.std.specs.Str.Parse.{digits_value}
use Rattle.nx_base.proofs.character_code.code_of_digits.Given as goal

abbrev pub invariant-loop-digit : goal.invariant-loop-digit
invariant-loop-digit l = l.code ≡ min (digits_value l.base (take l.digit-index l.digits)) 0x110000
