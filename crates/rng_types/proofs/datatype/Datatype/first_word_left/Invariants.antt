use Rattle.std.proofs.Common.{◌≡◌, ◌<◌, ◌+◌, ◌-◌, ℕ, false}
use Rattle.rng_types.specs.Giving.{is_member, word_of}
use Rattle.rng_types.proofs.datatype.Datatype.first_word_left.Given as goal

abbrev pub invariant-loop-number : goal.invariant-loop-number
invariant-loop-number l = (i : ℕ) → i < l.number → is_member l.self l.excepts l.one_token (word_of l.count (256 + i)) ≡ false

abbrev pub decreases-loop-number : goal.decreases-loop-number
decreases-loop-number l = 130 - l.number
