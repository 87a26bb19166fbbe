use Rattle.std.proofs.Common.{◌≡◌, ◌-◌, length}
use Rattle.nx_base.specs.Text.{IsPlace}
use Rattle.nx_move.specs.Tags.{tags_from}
use Rattle.nx_move.specs.Walks.{into}
use Rattle.nx_move.proofs.ahead.behind_start.Given as goal

abbrev pub invariant-loop-tag : goal.invariant-loop-tag
invariant-loop-tag g l = record {
  border : IsPlace l.text l.place;
  same : into (tags_from l.text l.from) ≡ into (tags_from l.text l.place);
}

abbrev pub decreases-loop-tag : goal.decreases-loop-tag
decreases-loop-tag g l = length l.text - l.place
