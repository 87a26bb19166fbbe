use Rattle.std.proofs.Common.{◌∷◌, ◌-◌, sym, ◌∙◌, arith}
use Rattle.nx_marks.proofs.Trees.{at_node, count-before, count-here, count-on, count-most}
use Rattle.nx_marks.proofs.tree.Tree.+count_up_to.Goals as goal

pub returns-then-before-at : goal.returns-then-before-at
returns-then-before-at g t c =
    let n = c.in-Some.node.value in
    let at = at_node c.self.view_is c.self.invariant c.in-Some.is in
    let before = rw c.deref.ensures at c.reach-before.ensures in
    let counts = rw c.deref-then-before-at.ensures at c.count_up_to.ensures in
    rw at.is (counts ∙ sym (count-before c.args.at n.left (n.mark ∷ n.right) (omega arith)))

pub returns-then-deref-left : goal.returns-then-deref-left
returns-then-deref-left g t c =
    let n = c.in-Some.node.value in
    let at = at_node c.self.view_is c.self.invariant c.in-Some.is in
    let before = rw c.deref.ensures at c.reach-before.ensures in
    let counts = rw c.deref-then-deref-left.ensures at c.count.ensures in
    let short = rw c.deref-2.ensures at c.if-deref-left.true in
    rw at.is (counts ∙ sym (count-here c.args.at n.left n.mark n.right (omega arith) (omega arith)))

pub overflow_add-result-2 : goal.overflow_add-result-2
overflow_add-result-2 g t c =
    let n = c.in-Some.node.value in
    let at = at_node c.self.view_is c.self.invariant c.in-Some.is in
    let front = rw c.deref-3.ensures at c.count-2.ensures in
    let behind = rw c.deref-4.ensures at c.count_up_to-2.ensures in
    let most = count-most (c.args.at - c.reach-before.result - c.deref-5.result.now.mark.len) n.right in
    let all = at.counts in
    let fits = at.count_fits in
    omega arith

pub returns : goal.returns
returns g t c =
    let n = c.in-Some.node.value in
    let at = at_node c.self.view_is c.self.invariant c.in-Some.is in
    let before = rw c.deref.ensures at c.reach-before.ensures in
    let front = rw c.deref-3.ensures at c.count-2.ensures in
    let behind = rw (c.deref-4.ensures, c.deref-5.ensures) at c.count_up_to-2.ensures in
    let long = rw c.deref-2.ensures at c.if-deref-left.false in
    let here = before in
    let on = count-on c.args.at n.left n.mark n.right (omega arith) (omega arith) in
    rw at.is (rw on (rw (sym here) (omega arith)))
