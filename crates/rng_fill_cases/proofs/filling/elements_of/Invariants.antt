use Rattle.rng_fill_cases.specs.Usable.{HasHeads}
use Rattle.rng_fill_cases.proofs.filling.elements_of.Given as goal

abbrev pub invariant-loop-number : goal.invariant-loop-number
invariant-loop-number l = HasHeads l.contents l.heads
