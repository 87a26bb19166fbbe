use Rattle.std.proofs.Common.{length, refl}
use Rattle.nx_marks.proofs.Trees.{at_node, levels}
use Rattle.nx_marks.proofs.tree.Tree.+depth.Goals as goal

pub returns-clause-few : goal.returns-clause-few
returns-clause-few g t c =
    let n = c.in-Some.node.value in
    let at = at_node c.self.view_is c.self.invariant c.in-Some.is in
    let front = rw c.deref.ensures at c.depth.ensures.few in
    let behind = rw c.deref-2.ensures at c.depth-2.ensures.few in
    levels (length n.left) (length n.right) _ _ _ _ _ front behind at.balanced at.counts c.max.ensures refl
