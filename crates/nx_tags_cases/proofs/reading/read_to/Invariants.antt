-- a border at the place or in front of it, with what is known there
use Rattle.std.specs.Prelude.{◌-◌, ◌≤◌}
use Rattle.nx_tags.specs.Reading.{IsRead}
use Rattle.nx_tags_cases.proofs.reading.read_to.Given as goal

abbrev pub invariant-loop-place : goal.invariant-loop-place
invariant-loop-place g l = IsRead l.text l.place l.state × (l.place ≤ l.to)

abbrev pub decreases-loop-place : goal.decreases-loop-place
decreases-loop-place g l = l.to - l.place
