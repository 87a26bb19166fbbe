use Rattle.std.proofs.Common.{◌<◌, ◌+◌, ◌*◌, [], ◌∷◌, ◌++◌, length, sym, ap, ◌∙◌, arith, append_assoc}
use Rattle.std.proofs.lemmas.List.{length-append}
use Rattle.nx_marks.proofs.Trees.{at_node, sums_at, summed-one, summed-with, one-more-behind}
use Rattle.nx_marks.proofs.tree.Tree.+push.Goals as goal

pub push-requires : goal.push-requires
push-requires g t c κs within =
    let at = at_node c.self.view_is c.self.invariant c.in-Some.is in
    let counts = at.counts in
    let reaches = at.reaches in
    rw (c.deref_mut-then-weight.ensures.value, c.deref_mut.ensures.value, c.in-Some.node-is) (grind arith, (within, (omega arith, omega arith)))

pub invariant_of-self : goal.invariant_of-self
invariant_of-self g t c =
    let n = c.in-Some.node.value in
    let last = c.args.last in
    let at = at_node c.self.view_is c.self.invariant c.in-Some.is in
    let counts = at.counts in
    let behind = rw (c.deref_mut-then-weight.ensures.value, c.deref_mut.ensures.value, c.in-Some.node-is) at c.push.ensures in
    let is = ap (λ l. n.left ++ n.mark ∷ l) behind ∙ sym (append_assoc n.left (n.mark ∷ n.right) (last ∷ [])) ∙ ap (λ l. l ++ last ∷ []) (sym at.is) in
    let sums = rw (c.deref_mut.ensures.value, c.in-Some.node-is) at c.add.ensures in
    let one = summed-one last _ _ _ _ (omega arith) c.sums.ensures.count c.sums.ensures.reach c.sums.ensures.whole c.sums.ensures.faulty in
    let room : length n.right + 1 < 3 * (length n.left + 1) = (let a = rw c.deref.ensures at c.weight.ensures in let b = rw c.deref-in-Some.ensures at c.weight-in-Some.ensures in omega (arith, c.if-weight.true)) in
    let many = ap length behind ∙ length-append n.right (last ∷ []) in
    rw (c.deref_mut-then-weight.ensures.value) (rw (c.deref_mut.ensures.value, c.in-Some.node-is) (record {
      sums = summed-with (sums_at c.self.view_is c.self.invariant c.in-Some.is) one is c.requires.count (omega arith) sums.count sums.reach sums.whole sums.faulty;
      balanced = one-more-behind (length n.left) (length n.right) _ at.balanced room many;
    }))
