-- a border in front of the place or at it, with what is known there
use Rattle.std.specs.Prelude.{◌-◌}
use Rattle.nx_tags.proofs.Towards.{IsOnWay}
use Rattle.nx_tags.proofs.front.Front.read_to.Given as goal

abbrev pub invariant-loop-place : goal.invariant-loop-place
invariant-loop-place g l = IsOnWay l.text l.from l.at l.place l.self.state l.self.starts.items l.ended

abbrev pub decreases-loop-place : goal.decreases-loop-place
decreases-loop-place g l = l.at - l.place
