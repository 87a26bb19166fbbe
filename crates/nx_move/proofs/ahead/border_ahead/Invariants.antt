use Rattle.std.proofs.Common.{◌≡◌, ◌-◌}
use Rattle.nx_base.specs.Text.{IsPlace}
use Rattle.nx_move.specs.Tags.{tags_from, tags_of}
use Rattle.nx_move.specs.Ways.{ahead}
use Rattle.nx_move.proofs.ahead.border_ahead.Given as goal

abbrev pub invariant-loop-place : goal.invariant-loop-place
invariant-loop-place g l = record {
  border : IsPlace l.text l.place;
  same : ahead l.at (tags_of l.text) ≡ ahead l.at (tags_from l.text l.place);
}

abbrev pub decreases-loop-place : goal.decreases-loop-place
decreases-loop-place g l = l.at - l.place
