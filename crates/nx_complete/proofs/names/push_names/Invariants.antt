-- the offers so far, and those of the names that are left
use Rattle.std.proofs.Common.{length}
use Rattle.nx_complete.specs.Asking.{asks, names_passed}
use Rattle.nx_complete.proofs.Asked.{Going}
use Rattle.nx_complete.proofs.names.push_names.Given as goal

abbrev pub invariant-loop-name : goal.invariant-loop-name
invariant-loop-name g l =
    let m = g.M.Matcher in
    let may = asks (m.language l.fn.matcher).definitions l.naming (m.means l.fn.matcher l.here) in
    Going (m.later l.fn.matcher l.matcher) l.offers.items (names_passed may l.left) l.fn.offers.items (names_passed may l.names)

abbrev pub decreases-loop-name : goal.decreases-loop-name
decreases-loop-name g l = length l.left
