-- the copies so far and the elements that are left are all of them
use Rattle.std.proofs.Common.{◌≡◌, ◌++◌, length}
use Rattle.nx_written.proofs.state.tags_of.Given as goal

abbrev pub invariant-elements : goal.invariant-elements
invariant-elements l = l.tags.items ++ l.rest ≡ l.elements

abbrev pub decreases-elements : goal.decreases-elements
decreases-elements l = length l.rest
