-- the walk rests, and the nodes so far were met
use Rattle.std.proofs.Common.{map, ℕ, ◌<◌, ◌≡◌, ◌≢◌, [], None}
use Rattle.rng_simplify.specs.declared.order.Mark.TheVariants.{New}
use Rattle.rng_simplify.specs.Cells.{cell_of}
use Rattle.rng_simplify.specs.NodePlaces.{IsStanding}
use Rattle.rng_simplify.specs.NodeWalks.{walk_state_of, mark_at, IsWalk}
use Rattle.rng_simplify.proofs.order.Walk.nodes.Given as goal

abbrev pub invariant-loop-i : goal.invariant-loop-i
invariant-loop-i l = record {
  is_walk : IsWalk (map cell_of l.whole.nodes.items) l.whole.root l.found None (walk_state_of l.self);
  at_rest : (walk_state_of l.self).path ≡ [];
  met : (k : ℕ) → k < l.i → IsStanding (map cell_of l.whole.nodes.items) l.whole.root k → mark_at (walk_state_of l.self) k ≢ New;
}
