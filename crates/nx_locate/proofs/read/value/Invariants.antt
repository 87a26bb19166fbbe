use Rattle.std.proofs.Common.{◌≡◌, length}
use Rattle.nx_locate.specs.RulesRead.{value_among}
use Rattle.nx_locate.proofs.read.value.Given as goal

abbrev pub invariant-loop-item : goal.invariant-loop-item
invariant-loop-item l = value_among l.local l.tag ≡ value_among l.local l.rest

abbrev pub decreases-loop-item : goal.decreases-loop-item
decreases-loop-item l = length l.rest
