-- those that are made, with those that are still to come, are all
use Rattle.std.proofs.Common.{◌≡◌, ◌<◌, ◌++◌, length, map}
use Rattle.deriv_nodes.specs.Numbers.{at, Later}
use Rattle.deriv_nodes.specs.Opened.{openings_at, AreNodes, placed}
use Rattle.deriv_nodes.proofs.nodes.Nodes.all_placed.Given as goal

abbrev pub invariant-loop-one : goal.invariant-loop-one
invariant-loop-one l = record {
  later : Later l.initial.self l.self;
  before : AreNodes l.self l.made.items;
  behind : AreNodes l.self l.left;
  here : l.side < length l.self;
  same : openings_at l.self l.made.items ++ map (placed l.place (at l.self l.side)) (openings_at l.self l.left)
      ≡ map (placed l.place (at l.initial.self l.side)) (openings_at l.initial.self l.initial.left);
}

abbrev pub decreases-loop-one : goal.decreases-loop-one
decreases-loop-one l = length l.left
