use Rattle.std.proofs.Common.{◌≡◌, ◌++◌, replicate}
use Rattle.rng_types.proofs.pushing.push_many.Given as goal

abbrev pub invariant-loop-made : goal.invariant-loop-made
invariant-loop-made l = l.text ≡ l.initial.text ++ replicate l.made l.byte
