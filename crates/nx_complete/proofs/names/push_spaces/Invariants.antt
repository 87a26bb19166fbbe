-- the offers so far, and those of the namespaces that are left
use Rattle.std.proofs.Common.{length}
use Rattle.nx_complete.specs.Asking.{asks, spaces_passed}
use Rattle.nx_complete.proofs.Asked.{Going}
use Rattle.nx_complete.proofs.names.push_spaces.Given as goal

abbrev pub invariant-loop-space : goal.invariant-loop-space
invariant-loop-space g l =
    let m = g.M.Matcher in
    let may = asks (m.language l.fn.matcher).definitions l.naming (m.means l.fn.matcher l.here) in
    Going (m.later l.fn.matcher l.matcher) l.offers.items (spaces_passed may l.local l.left) l.fn.offers.items (spaces_passed may l.local l.spaces)

abbrev pub decreases-loop-space : goal.decreases-loop-space
decreases-loop-space g l = length l.left
