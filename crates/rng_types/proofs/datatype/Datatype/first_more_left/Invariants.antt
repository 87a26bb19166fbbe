use Rattle.std.proofs.Common.{◌≡◌, ◌<◌, ℕ, false}
use Rattle.rng_more_types.specs.Laws.{candidate}
use Rattle.rng_types.specs.Giving.{is_member}
use Rattle.rng_types.proofs.datatype.Datatype.first_more_left.Given as goal

abbrev pub invariant-loop-number : goal.invariant-loop-number
invariant-loop-number l = (i : ℕ) → i < l.number → is_member l.self l.excepts l.one_token (candidate l.more l.zeros i) ≡ false
