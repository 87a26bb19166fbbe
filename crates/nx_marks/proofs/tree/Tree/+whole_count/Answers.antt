use Rattle.std.proofs.Common.{◌∷◌, sym, ◌∙◌, arith}
use Rattle.nx_marks.proofs.Trees.{at_node, wholes-most, wholes-before, wholes-here, wholes-on, is-false, is-true}
use Rattle.nx_marks.proofs.tree.Tree.+whole_count.Goals as goal

pub returns-then-not-sums : goal.returns-then-not-sums
returns-then-not-sums g t c =
    let n = c.in-Some.node.value in
    let at = at_node c.self.view_is c.self.invariant c.in-Some.is in
    let whole = rw c.deref.ensures at c.sums.ensures.whole in
    let counts = rw c.deref-then-not-sums.ensures at c.whole_count.ensures in
    rw at.is (counts ∙ sym (wholes-before n.left (n.mark ∷ n.right) (sym whole ∙ is-false _ c.if-not-sums.true)))

pub returns-then-not-deref : goal.returns-then-not-deref
returns-then-not-deref g t c =
    let n = c.in-Some.node.value in
    let at = at_node c.self.view_is c.self.invariant c.in-Some.is in
    let whole = rw c.deref.ensures at c.sums.ensures.whole in
    let counts = rw c.deref-then-not-deref.ensures at c.count.ensures in
    let no_more = rw c.deref-2.ensures at c.if-not-deref.true in
    rw at.is (counts ∙ sym (wholes-here n.left n.mark n.right (sym whole ∙ is-true _ c.if-not-sums.false) no_more))

pub overflow_add-result : goal.overflow_add-result
overflow_add-result g t c =
    let at = at_node c.self.view_is c.self.invariant c.in-Some.is in
    let front = rw c.deref-3.ensures at c.count-2.ensures in
    let all = at.counts in
    let fits = at.count_fits in
    omega arith

pub overflow_add-result-2 : goal.overflow_add-result-2
overflow_add-result-2 g t c =
    let n = c.in-Some.node.value in
    let at = at_node c.self.view_is c.self.invariant c.in-Some.is in
    let front = rw c.deref-3.ensures at c.count-2.ensures in
    let behind = rw c.deref-4.ensures at c.whole_count-2.ensures in
    let most = wholes-most n.right in
    let all = at.counts in
    let fits = at.count_fits in
    omega arith

pub returns : goal.returns
returns g t c =
    let n = c.in-Some.node.value in
    let at = at_node c.self.view_is c.self.invariant c.in-Some.is in
    let whole = rw c.deref.ensures at c.sums.ensures.whole in
    let front = rw c.deref-3.ensures at c.count-2.ensures in
    let behind = rw c.deref-4.ensures at c.whole_count-2.ensures in
    let more = rw c.deref-2.ensures at c.if-not-deref.false in
    let on = wholes-on n.left n.mark n.right (sym whole ∙ is-true _ c.if-not-sums.false) more in
    rw at.is (omega arith)
