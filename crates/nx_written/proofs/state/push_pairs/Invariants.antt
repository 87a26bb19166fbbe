-- the copies so far and the pairs that are left are all of them
use Rattle.std.proofs.Common.{◌≡◌, ◌++◌, length}
use Rattle.nx_written.proofs.state.push_pairs.Given as goal

abbrev pub invariant-pairs : goal.invariant-pairs
invariant-pairs l = l.scope.items ++ l.rest ≡ l.fn.scope.items ++ l.pairs

abbrev pub decreases-pairs : goal.decreases-pairs
decreases-pairs l = length l.rest
