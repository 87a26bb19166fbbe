use Rattle.std.proofs.Common.{◌≡◌, refl}
use Rattle.nx_marks.proofs.Trees.{at_node}
use Rattle.nx_marks.proofs.balance.opened.Goals as goal

pub returns : goal.returns
returns g c =
    let n = c.in-Some.node.value in
    let front : c.replace-front.result ≡ n.left = rw (c.deref_mut.ensures.value, c.in-Some.node-is) at c.replace-front.ensures.value in
    let mark : c.deref_mut-2.result.now.mark ≡ n.mark = rw (c.deref_mut-2.ensures.value, c.deref_mut.ensures.value, c.in-Some.node-is) refl in
    let behind : c.replace-behind.result ≡ n.right = rw (c.deref_mut-2.ensures.value, c.deref_mut.ensures.value, c.in-Some.node-is) at c.replace-behind.ensures.value in
    rw (front, mark, behind) (at_node c.tree.view_is c.tree.invariant c.in-Some.is)
