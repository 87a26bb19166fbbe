use Rattle.std.proofs.Common.{ℕ, length}
use Rattle.rngx_read.specs.Answering.{BeginsOne}
use Rattle.rngx_read.proofs.read.place.Given as goal

abbrev pub invariant-tokens : goal.invariant-tokens
invariant-tokens l = (at : ℕ) → BeginsOne l.rest at → BeginsOne l.tokens at

abbrev pub decreases-tokens : goal.decreases-tokens
decreases-tokens l = length l.rest
