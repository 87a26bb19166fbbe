use Rattle.std.proofs.Common.{◌≡◌, ◌++◌, length}
use Rattle.nx_recover.specs.Offered.{attributes_among}
use Rattle.nx_complete.proofs.answers.attributes_among.Given as goal

abbrev pub invariant-loop-item : goal.invariant-loop-item
invariant-loop-item l = l.names.items ++ attributes_among l.left ≡ attributes_among l.items

abbrev pub decreases-loop-item : goal.decreases-loop-item
decreases-loop-item l = length l.left
