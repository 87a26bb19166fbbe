use Rattle.std.proofs.Common.{◌≤◌, length, map}
use Rattle.rng_core.specs.Meaning.{definition_of}
use Rattle.rng_cost.specs.Rounds.{Falls}
use Rattle.rng_cost.proofs.rounds.settle_all.Given as goal

abbrev pub invariant-loop-left : goal.invariant-loop-left
invariant-loop-left l = record {
  inside : l.left ≤ length l.defs;
  falls : Falls (map definition_of l.defs) l.left l.initial.costs.items l.costs.items l.fell;
}

abbrev pub decreases-loop-left : goal.decreases-loop-left
decreases-loop-left l = l.left
