use Rattle.std.specs.Prelude.{◌-◌, length}
use Rattle.nx_tags.proofs.Walks.{IsAlong}
use Rattle.nx_tags.proofs.element.end_tag_of.Given as goal

abbrev pub invariant-loop-open_tags : goal.invariant-loop-open_tags
invariant-loop-open_tags g l = IsAlong l.text l.fn.start l.from l.place l.open_tags

abbrev pub decreases-loop-open_tags : goal.decreases-loop-open_tags
decreases-loop-open_tags g l = length l.text - l.place
