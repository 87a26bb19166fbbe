use Rattle.std.proofs.Common.{◌≡◌, ◌-◌, length}
use Rattle.nx_base.specs.Text.{IsPlace}
use Rattle.nx_move.specs.Tags.{tags_from, tags_of}
use Rattle.nx_move.specs.Ways.{behind}
use Rattle.nx_move.specs.Walks.{trail_left, nothing_left, left_of}
use Rattle.nx_move.proofs.behind.trail_behind.Given as goal

abbrev pub invariant-loop-trail : goal.invariant-loop-trail
invariant-loop-trail g l = record {
  border : IsPlace l.text l.place;
  same : left_of nothing_left (behind l.at (tags_of l.text)) ≡ left_of (trail_left l.trail) (behind l.at (tags_from l.text l.place));
}

abbrev pub decreases-loop-trail : goal.decreases-loop-trail
decreases-loop-trail g l = length l.text - l.place
