use Rattle.std.specs.Prelude.{◌-◌}
use Rattle.nx_tags.proofs.Walks.{IsTowards}
use Rattle.nx_tags.proofs.element.token_at.Given as goal

abbrev pub invariant-loop-place : goal.invariant-loop-place
invariant-loop-place g l = IsTowards l.text l.at l.place

abbrev pub decreases-loop-place : goal.decreases-loop-place
decreases-loop-place g l = l.at - l.place
