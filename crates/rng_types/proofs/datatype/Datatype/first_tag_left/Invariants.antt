use Rattle.std.proofs.Common.{◌≡◌, ◌<◌, ◌-◌, ℕ, false}
use Rattle.rng_types.specs.Giving.{is_member, tag}
use Rattle.rng_types.proofs.datatype.Datatype.first_tag_left.Given as goal

abbrev pub invariant-loop-number : goal.invariant-loop-number
invariant-loop-number l = (i : ℕ) → i < l.number → is_member l.self l.excepts l.one_token (tag i) ≡ false

abbrev pub decreases-loop-number : goal.decreases-loop-number
decreases-loop-number l = 130 - l.number
