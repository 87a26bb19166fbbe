use Rattle.std.proofs.Common.{◌≡◌, ◌<◌, ◌-◌, ℕ, false}
use Rattle.rng_types.specs.Giving.{is_member, pad}
use Rattle.rng_types.proofs.datatype.Datatype.first_padded_left.Given as goal

abbrev pub invariant-loop-number : goal.invariant-loop-number
invariant-loop-number l = (i : ℕ) → i < l.number → is_member l.self l.excepts l.one_token (pad i l.literal) ≡ false

abbrev pub decreases-loop-number : goal.decreases-loop-number
decreases-loop-number l = 130 - l.number
