use Rattle.std.proofs.Common.{◌≡◌, ◌+◌, ◌*◌, false, map}
use Rattle.rng_core.specs.Meaning.{definition_of}
use Rattle.rng_cost.specs.Least.{AreRight}
use Rattle.rng_cost.specs.Rounds.{AreSettledFrom, total}
use Rattle.rng_cost.proofs.Passing.{flag}
use Rattle.rng_cost.proofs.rounds.least_costs.Given as goal

abbrev pub invariant-loop-falling : goal.invariant-loop-falling
invariant-loop-falling l = record {
  right : AreRight (map definition_of l.defs) l.costs.items;
  settled : l.falling ≡ false → AreSettledFrom (map definition_of l.defs) 0 l.costs.items;
}

abbrev pub decreases-loop-falling : goal.decreases-loop-falling
decreases-loop-falling l = 2 * total l.costs.items + flag l.falling
