use Rattle.std.proofs.Common.{◌≡◌, ◌-◌, ◌≤◌, length}
use Rattle.std.specs.Option.{option_map}
use Rattle.nx_base.specs.Text.{IsPlace}
use Rattle.nx_move.specs.Tags.{tags_from}
use Rattle.nx_move.specs.Walks.{closing, out_of}
use Rattle.nx_move.proofs.ahead.behind_end.Given as goal

abbrev pub invariant-loop-tag : goal.invariant-loop-tag
invariant-loop-tag g l = record {
  border : IsPlace l.text l.place;
  deep : l.depth ≤ l.place;
  same : out_of (tags_from l.text l.from) ≡ option_map (λ tag. tag.to) (closing l.depth (tags_from l.text l.place));
}

abbrev pub decreases-loop-tag : goal.decreases-loop-tag
decreases-loop-tag g l = length l.text - l.place
