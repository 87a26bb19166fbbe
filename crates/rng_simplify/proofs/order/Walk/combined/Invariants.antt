-- the walk rests, what was met stays so, and the combined definitions so far were met
use Rattle.std.proofs.Common.{map, length, ℕ, ◌+◌, ◌<◌, ◌≡◌, ◌≢◌, [], None}
use Rattle.rng_simplify.specs.declared.order.Mark.TheVariants.{New}
use Rattle.rng_simplify.specs.Cells.{cell_of}
use Rattle.rng_simplify.specs.NodeWalks.{walk_state_of, mark_at, IsWalk, KeepsMarks}
use Rattle.rng_simplify.proofs.order.Walk.combined.Given as goal

abbrev pub invariant-loop-j : goal.invariant-loop-j
invariant-loop-j l = record {
  is_walk : IsWalk (map cell_of l.whole.nodes.items) l.whole.root l.found None (walk_state_of l.self);
  at_rest : (walk_state_of l.self).path ≡ [];
  keeps : KeepsMarks (walk_state_of l.fn.self) (walk_state_of l.self);
  met : (number : ℕ) → number < l.j → mark_at (walk_state_of l.self) (length l.whole.nodes.items + number) ≢ New;
}
