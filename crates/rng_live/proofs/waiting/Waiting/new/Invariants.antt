use Rattle.rng_live.specs.Marking.{AreListed}
use Rattle.rng_live.proofs.waiting.Waiting.new.Given as goal

abbrev pub invariant-loop-number : goal.invariant-loop-number
invariant-loop-number l = AreListed l.conditions l.number l.waiting.waiters.items l.waiting.lists.items
