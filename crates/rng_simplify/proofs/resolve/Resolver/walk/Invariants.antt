-- the nodes from here on are taken
use Rattle.std.proofs.Common.{map, length, ◌≤◌}
use Rattle.rng_simplify.specs.Cells.{cell_of}
use Rattle.rng_simplify.specs.Findings.{IsMidway, findings_of}
use Rattle.rng_simplify.proofs.resolve.Resolver.walk.Given as goal

abbrev pub invariant-loop-rest : goal.invariant-loop-rest
invariant-loop-rest l = record {
  within : l.rest ≤ length l.whole.nodes.items;
  midway : IsMidway (map cell_of l.whole.nodes.items) l.whole.root l.rest (findings_of l.self);
}

abbrev pub decreases-loop-rest : goal.decreases-loop-rest
decreases-loop-rest l = l.rest
