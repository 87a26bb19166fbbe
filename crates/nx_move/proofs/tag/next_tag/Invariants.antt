use Rattle.std.proofs.Common.{◌≡◌, ◌-◌, ◌≤◌, length}
use Rattle.nx_base.specs.Text.{IsPlace}
use Rattle.nx_move.specs.Tags.{tags_from}
use Rattle.nx_move.proofs.tag.next_tag.Given as goal

abbrev pub invariant-loop-piece : goal.invariant-loop-piece
invariant-loop-piece g l = record {
  border : IsPlace l.text l.place;
  later : l.from ≤ l.place;
  same : tags_from l.text l.from ≡ tags_from l.text l.place;
}

abbrev pub decreases-loop-piece : goal.decreases-loop-piece
decreases-loop-piece g l = length l.text - l.place
