-- the offers so far, and those of the literals that are left
use Rattle.std.proofs.Common.{length}
use Rattle.nx_complete.specs.Asking.{takes_value, values_passed}
use Rattle.nx_complete.proofs.Asked.{Going}
use Rattle.nx_complete.proofs.values.push_values.Given as goal

abbrev pub invariant-loop-text : goal.invariant-loop-text
invariant-loop-text g l =
    let m = g.M.Matcher in
    let may = takes_value l.name (m.means l.fn.matcher l.here) in
    Going (m.later l.fn.matcher l.matcher) l.offers.items (values_passed may l.left) l.fn.offers.items (values_passed may l.texts)

abbrev pub decreases-loop-text : goal.decreases-loop-text
decreases-loop-text g l = length l.left
