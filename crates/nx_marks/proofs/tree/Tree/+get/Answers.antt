use Rattle.std.proofs.Common.{ap, arith}
use Rattle.nx_marks.specs.Chain.{reach}
use Rattle.nx_marks.proofs.Trees.{at_node, reach-parts, lies-behind}
use Rattle.nx_marks.proofs.tree.Tree.+get.Goals as goal

pub overflow_add-result : goal.overflow_add-result
overflow_add-result g t c =
    let at = at_node c.self.view_is c.self.invariant c.in-Some.is in
    let b = rw c.deref.ensures at c.sums-before.ensures.reach in
    let e = at.reaches in
    let fits = at.reach_fits in
    rw c.deref-3.ensures (omega arith)

pub overflow_add-result-2 : goal.overflow_add-result-2
overflow_add-result-2 g t c =
    let at = at_node c.self.view_is c.self.invariant c.in-Some.is in
    let b = rw c.deref.ensures at c.sums-before.ensures.reach in
    let a = rw c.deref-2.ensures at c.get-place.ensures in
    let are = ap reach a.are in
    let within = reach-parts a.earlier c.get-place.result.1.now a.later in
    let there = a.there in
    let e = at.reaches in
    let fits = at.reach_fits in
    rw c.deref-3.ensures (omega arith)

pub returns : goal.returns
returns g t c =
    let n = c.in-Some.node.value in
    let at = at_node c.self.view_is c.self.invariant c.in-Some.is in
    let k = rw c.deref.ensures at c.sums-before.ensures.count in
    let b = rw c.deref.ensures at c.sums-before.ensures.reach in
    let a = rw c.deref-2.ensures at c.get-place.ensures in
    rw (at.is, c.deref-3.ensures) (lies-behind n.left n.mark a (omega arith) (omega arith))
