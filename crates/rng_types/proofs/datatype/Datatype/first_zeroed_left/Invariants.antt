use Rattle.std.proofs.Common.{◌≡◌, ◌<◌, ℕ, false}
use Rattle.rng_types.specs.Giving.{is_member, zeroed}
use Rattle.rng_types.proofs.datatype.Datatype.first_zeroed_left.Given as goal

abbrev pub invariant-loop-number : goal.invariant-loop-number
invariant-loop-number l = (i : ℕ) → i < l.number → is_member l.self l.excepts l.one_token (zeroed i l.literal) ≡ false
