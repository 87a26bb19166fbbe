-- the walk is somewhere, all that was met stays so, and so does the node from which it goes
use Rattle.std.proofs.Common.{map, ◌≢◌, None}
use Rattle.rng_simplify.specs.declared.order.Mark.TheVariants.{New}
use Rattle.rng_simplify.specs.Cells.{cell_of}
use Rattle.rng_simplify.specs.NodeWalks.{walk_state_of, mark_at, IsWalk, KeepsMarks, work}
use Rattle.rng_simplify.proofs.order.Walk.go.Given as goal

abbrev pub invariant-loop-step : goal.invariant-loop-step
invariant-loop-step l = record {
  is_walk : IsWalk (map cell_of l.whole.nodes.items) l.whole.root l.found None (walk_state_of l.self);
  keeps : KeepsMarks (walk_state_of l.fn.self) (walk_state_of l.self);
  met : mark_at (walk_state_of l.self) l.fn.from ≢ New;
}

abbrev pub decreases-loop-step : goal.decreases-loop-step
decreases-loop-step l = work (map cell_of l.whole.nodes.items) l.found (walk_state_of l.self)
