use Rattle.std.proofs.Common.{◌≡◌, true, length}
use Rattle.rng_widen.specs.CompactWidenings.{behind_literals}
use Rattle.rng_widen.proofs.compact.behind_literals.Given as goal

abbrev pub invariant-tokens : goal.invariant-tokens
invariant-tokens l = behind_literals l.needed l.rest ≡ behind_literals true l.tokens

abbrev pub decreases-tokens : goal.decreases-tokens
decreases-tokens l = length l.rest
