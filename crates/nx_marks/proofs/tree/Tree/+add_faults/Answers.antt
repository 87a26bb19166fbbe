use Rattle.std.proofs.Common.{◌≡◌, ◌-◌, ◌+◌, ◌++◌, [], ◌∷◌, take, length, ap, sym, ◌∙◌, arith}
use Rattle.nx_base.specs.Shifting.{placed}
use Rattle.nx_marks.specs.Chain.{faults_in, reach}
use Rattle.nx_marks.specs.Nodes.{marks_at}
use Rattle.nx_marks.specs.Tree.{at_root}
use Rattle.nx_marks.proofs.Faults.{faultless_first, fit-left, fit-mark, fit-parts, listed-parts, nothing-listed, on_ok, parts-length, parts-reach}
use Rattle.nx_marks.proofs.Trees.{sums_at}
use Rattle.nx_marks.proofs.tree.Tree.+add_faults.Goals.{then-count-eq0-via-then-count-eq0, then-count-eq0-via-else-count-eq0+then-not-deref}
use Rattle.nx_marks.proofs.tree.Tree.+add_faults.Goals as goal

pub returns-then-count-eq0 : goal.returns-then-count-eq0
returns-then-count-eq0 g t c =
    let listed = nothing-listed c.args.place c.args.count c.args.self.now c.args.faults.now in
    elim c.then-count-eq0.branch [
      | then-count-eq0-via-then-count-eq0 w ↦ listed (ap (λ n. faults_in c.args.place (take n c.args.self.now)) w.if-count-eq0.true)
      | then-count-eq0-via-else-count-eq0+then-not-deref w ↦
          (let n = c.in-Some.node.value in
          let sums = sums_at c.self.view_is c.self.invariant c.in-Some.is in
          listed (faultless_first c.args.place c.args.count c.args.self.now (sym sums.are_faulty ∙ ap (λ n. n.sums.faulty) (sym w.deref.ensures) ∙ w.if-not-deref.true)))
    ]

pub add_faults-requires : goal.add_faults-requires
add_faults-requires g t c κs within =
    let n = c.in-Some.node.value in
    let all = c.args.self.now in
    let at : c.args.self.now ≡ marks_at c.in-Some.node.value = sym c.self.view_is ∙ ap (at_root [] (λ b. b.value.left ++ b.value.mark ∷ b.value.right)) c.in-Some.is in
    let len : c.sums-before.result.count ≡ length n.left = c.sums-before.ensures.count ∙ ap (λ n. length n.left) c.deref-2.ensures in
    let far : c.sums-before.result.reach ≡ reach n.left = c.sums-before.ensures.reach ∙ ap (λ n. reach n.left) c.deref-2.ensures in
    let lens = parts-length all n.left n.mark n.right at in
    let fars = parts-reach all n.left n.mark n.right at in
    let v = c.deref-then-count-earlier.result.now in
    let same = ap (λ n. length n.left) c.deref-then-count-earlier.ensures in
    let reaches = ap (λ n. reach n.left) c.deref-then-count-earlier.ensures in
    (omega (arith, c.decreases, lens, same), (λ a m. within a m, (fit-left c.args.count c.args.count all v.left v.mark v.right (at ∙ ap marks_at (sym c.deref-then-count-earlier.ensures)) (omega (arith, c.if-count-earlier.true)) (omega (arith, c.if-count-earlier.true, len, same)) c.requires.fit, (omega (arith, c.requires.fits, fars, reaches), omega (arith, c.if-count-earlier.true, len, same)))))

pub add_faults-requires-2 : goal.add_faults-requires-2
add_faults-requires-2 g t c κs within =
    let n = c.in-Some.node.value in
    let all = c.args.self.now in
    let at : c.args.self.now ≡ marks_at c.in-Some.node.value = sym c.self.view_is ∙ ap (at_root [] (λ b. b.value.left ++ b.value.mark ∷ b.value.right)) c.in-Some.is in
    let len : c.sums-before.result.count ≡ length n.left = c.sums-before.ensures.count ∙ ap (λ n. length n.left) c.deref-2.ensures in
    let far : c.sums-before.result.reach ≡ reach n.left = c.sums-before.ensures.reach ∙ ap (λ n. reach n.left) c.deref-2.ensures in
    let lens = parts-length all n.left n.mark n.right at in
    let fars = parts-reach all n.left n.mark n.right at in
    let v = c.deref-3.result.now in
    let same = ap (λ n. length n.left) c.deref-3.ensures in
    let reaches = ap (λ n. reach n.left) c.deref-3.ensures in
    (omega (arith, c.decreases, lens, same), (λ a m. within a m, (fit-left c.sums-before.result.count c.args.count all v.left v.mark v.right (at ∙ ap marks_at (sym c.deref-3.ensures)) (omega (arith, c.if-count-earlier.false)) (omega (arith, c.if-count-earlier.false, len, same)) c.requires.fit, (omega (arith, c.requires.fits, fars, reaches), omega (arith, c.if-count-earlier.false, len, same)))))

pub overflow_add-place : goal.overflow_add-place
overflow_add-place g t c =
    let n = c.in-Some.node.value in
    let all = c.args.self.now in
    let at : c.args.self.now ≡ marks_at c.in-Some.node.value = sym c.self.view_is ∙ ap (at_root [] (λ b. b.value.left ++ b.value.mark ∷ b.value.right)) c.in-Some.is in
    let len : c.sums-before.result.count ≡ length n.left = c.sums-before.ensures.count ∙ ap (λ n. length n.left) c.deref-2.ensures in
    let far : c.sums-before.result.reach ≡ reach n.left = c.sums-before.ensures.reach ∙ ap (λ n. reach n.left) c.deref-2.ensures in
    let lens = parts-length all n.left n.mark n.right at in
    let fars = parts-reach all n.left n.mark n.right at in
    omega (arith, c.requires.fits, far, fars)

pub add_faults-requires-3 : goal.add_faults-requires-3
add_faults-requires-3 g t c =
    let n = c.in-Some.node.value in
    let all = c.args.self.now in
    let at : c.args.self.now ≡ marks_at c.in-Some.node.value = sym c.self.view_is ∙ ap (at_root [] (λ b. b.value.left ++ b.value.mark ∷ b.value.right)) c.in-Some.is in
    let len : c.sums-before.result.count ≡ length n.left = c.sums-before.ensures.count ∙ ap (λ n. length n.left) c.deref-2.ensures in
    let far : c.sums-before.result.reach ≡ reach n.left = c.sums-before.ensures.reach ∙ ap (λ n. reach n.left) c.deref-2.ensures in
    let lens = parts-length all n.left n.mark n.right at in
    let fars = parts-reach all n.left n.mark n.right at in
    let v = c.deref-4.result.now in
    let same = ap (λ n. length n.left) c.deref-4.ensures in
    let one = ap (λ n. n.mark.len) c.deref-4.ensures in
    fit-mark c.args.count (c.args.count - c.sums-before.result.count - 1) _ all v.left v.mark v.right (at ∙ ap marks_at (sym c.deref-4.ensures)) (omega (arith, c.if-count-earlier.false, len, same)) (omega (arith, c.requires.fits, far, fars, one)) c.requires.fit

pub overflow_add-place-2 : goal.overflow_add-place-2
overflow_add-place-2 g t c =
    let n = c.in-Some.node.value in
    let all = c.args.self.now in
    let at : c.args.self.now ≡ marks_at c.in-Some.node.value = sym c.self.view_is ∙ ap (at_root [] (λ b. b.value.left ++ b.value.mark ∷ b.value.right)) c.in-Some.is in
    let len : c.sums-before.result.count ≡ length n.left = c.sums-before.ensures.count ∙ ap (λ n. length n.left) c.deref-2.ensures in
    let far : c.sums-before.result.reach ≡ reach n.left = c.sums-before.ensures.reach ∙ ap (λ n. reach n.left) c.deref-2.ensures in
    let lens = parts-length all n.left n.mark n.right at in
    let fars = parts-reach all n.left n.mark n.right at in
    omega (arith, c.requires.fits, far, fars)

pub overflow_add-place-3 : goal.overflow_add-place-3
overflow_add-place-3 g t c =
    let n = c.in-Some.node.value in
    let all = c.args.self.now in
    let at : c.args.self.now ≡ marks_at c.in-Some.node.value = sym c.self.view_is ∙ ap (at_root [] (λ b. b.value.left ++ b.value.mark ∷ b.value.right)) c.in-Some.is in
    let len : c.sums-before.result.count ≡ length n.left = c.sums-before.ensures.count ∙ ap (λ n. length n.left) c.deref-2.ensures in
    let far : c.sums-before.result.reach ≡ reach n.left = c.sums-before.ensures.reach ∙ ap (λ n. reach n.left) c.deref-2.ensures in
    let lens = parts-length all n.left n.mark n.right at in
    let fars = parts-reach all n.left n.mark n.right at in
    let one = ap (λ n. n.mark.len) c.deref-6.ensures in
    omega (arith, c.requires.fits, far, fars, one)

pub add_faults-requires-4 : goal.add_faults-requires-4
add_faults-requires-4 g t c κs within =
    let n = c.in-Some.node.value in
    let all = c.args.self.now in
    let at : c.args.self.now ≡ marks_at c.in-Some.node.value = sym c.self.view_is ∙ ap (at_root [] (λ b. b.value.left ++ b.value.mark ∷ b.value.right)) c.in-Some.is in
    let len : c.sums-before.result.count ≡ length n.left = c.sums-before.ensures.count ∙ ap (λ n. length n.left) c.deref-2.ensures in
    let far : c.sums-before.result.reach ≡ reach n.left = c.sums-before.ensures.reach ∙ ap (λ n. reach n.left) c.deref-2.ensures in
    let lens = parts-length all n.left n.mark n.right at in
    let fars = parts-reach all n.left n.mark n.right at in
    let v = c.deref-5.result.now in
    let before = ap (λ n. length n.left) c.deref-5.ensures in
    let same = ap (λ n. length n.right) c.deref-5.ensures in
    let reaches = ap (λ n. reach n.right) c.deref-5.ensures in
    let one = ap (λ n. n.mark.len) c.deref-6.ensures in (
      omega (arith, c.decreases, lens, same),
      (
        λ a m. within a m,
        (
          (fit-parts c.args.count (c.args.count - c.sums-before.result.count - 1) all v.left v.mark v.right (at ∙ ap marks_at (sym c.deref-5.ensures)) (omega (arith, c.if-count-earlier.false, len, before)) c.requires.fit).1,
          (omega (arith, c.requires.fits, far, fars, one, reaches), omega (arith, c.if-count-earlier.false, c.requires.count, len, lens, same)),
        ),
      ),
    )

pub returns : goal.returns
returns g t c =
    let n = c.in-Some.node.value in
    let all = c.args.self.now in
    let at : c.args.self.now ≡ marks_at c.in-Some.node.value = sym c.self.view_is ∙ ap (at_root [] (λ b. b.value.left ++ b.value.mark ∷ b.value.right)) c.in-Some.is in
    let len : c.sums-before.result.count ≡ length n.left = c.sums-before.ensures.count ∙ ap (λ n. length n.left) c.deref-2.ensures in
    let far : c.sums-before.result.reach ≡ reach n.left = c.sums-before.ensures.reach ∙ ap (λ n. reach n.left) c.deref-2.ensures in
    let lens = parts-length all n.left n.mark n.right at in
    let fars = parts-reach all n.left n.mark n.right at in
    let old = c.args.faults.now in
    let front = c.add_faults-2.new.faults in
    let mid = c.add_faults-3.new.faults in
    let q = c.args.place + c.sums-before.result.reach in
    let m = c.args.count - c.sums-before.result.count - 1 in
    on_ok c.add_faults-4.result (λ e. listed-parts c.args.place q c.args.count m c.sums-before.result.count all n.left n.mark n.right old front mid c.add_faults-4.new.faults at (omega (arith, c.if-count-earlier.false, len)) len (omega (arith, far))
    (c.in_ok-add_faults.ensures ∙ ap (λ n. old ++ faults_in c.args.place (take c.sums-before.result.count n.left)) c.deref-3.ensures)
    (c.in_ok-add_faults-2.ensures ∙ ap (λ n. front ++ placed q n.mark.faults) c.deref-4.ensures)
    (e ∙ ap (λ v. mid ++ faults_in (q + v.mark.len) (take m c.deref-5.result.now.right)) c.deref-6.ensures ∙ ap (λ v. mid ++ faults_in (q + n.mark.len) (take m v.right)) c.deref-5.ensures)) c.add_faults-4.ensures
