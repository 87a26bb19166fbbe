use Rattle.std.proofs.Common.{◌≡◌, length}
use Rattle.nx_complete.specs.Asking.{longest_space}
use Rattle.nx_complete.proofs.apart.longest_space.Given as goal

abbrev pub invariant-loop-name : goal.invariant-loop-name
invariant-loop-name l = longest_space l.longest l.left ≡ longest_space 0 l.names

abbrev pub decreases-loop-name : goal.decreases-loop-name
decreases-loop-name l = length l.left
