use Rattle.std.proofs.Common.{◌-◌, length}
use Rattle.nx_scan.specs.Tag.{IsReadTo}
use Rattle.nx_scan.proofs.scan.tag_end.Given as goal

abbrev pub invariant-loop-c : goal.invariant-loop-c
invariant-loop-c l = IsReadTo l.text l.at l.part.place l.part.seen

abbrev pub decreases-loop-c : goal.decreases-loop-c
decreases-loop-c l = length l.initial.text - l.part.place
