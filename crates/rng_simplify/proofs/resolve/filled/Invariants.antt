-- the values so far
use Rattle.std.proofs.Common.{◌≡◌, replicate}
use Rattle.rng_simplify.proofs.resolve.filled.Given as goal

abbrev pub invariant-loop : goal.invariant-loop
invariant-loop g l = l.values.items ≡ replicate l.counter l.value
