use Rattle.std.proofs.Common.{◌≡◌, length}
use Rattle.nx_complete.specs.Asking.{longest_local}
use Rattle.nx_complete.proofs.apart.longest_local.Given as goal

abbrev pub invariant-loop-name : goal.invariant-loop-name
invariant-loop-name l = longest_local l.longest l.left ≡ longest_local l.least l.names

abbrev pub decreases-loop-name : goal.decreases-loop-name
decreases-loop-name l = length l.left
