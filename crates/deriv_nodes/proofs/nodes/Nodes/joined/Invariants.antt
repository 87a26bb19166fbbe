-- the openings so far with those that are still to come are the openings of both lists
use Rattle.std.proofs.Common.{◌≡◌, length}
use Rattle.rng_kept.specs.Openings.{joined}
use Rattle.deriv_nodes.specs.Numbers.{Later}
use Rattle.deriv_nodes.specs.Opened.{openings_at, AreNodes}
use Rattle.deriv_nodes.proofs.nodes.Nodes.joined.Given as goal

abbrev pub invariant-loop-one : goal.invariant-loop-one
invariant-loop-one l = record {
  later : Later l.initial.self l.self;
  opened : AreNodes l.self l.opened.items;
  behind : AreNodes l.self l.left;
  same : joined (openings_at l.self l.opened.items) (openings_at l.self l.left)
      ≡ joined (openings_at l.initial.self l.initial.opened.items) (openings_at l.initial.self l.initial.left);
}

abbrev pub decreases-loop-one : goal.decreases-loop-one
decreases-loop-one l = length l.left
