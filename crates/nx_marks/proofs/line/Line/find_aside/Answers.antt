use Rattle.std.proofs.Common.{◌≡◌, ◌⊎◌, ◌-◌, ◌<◌, ◌∷◌, inl, inr, true, List, ap, subst, sym, refl, ◌∙◌, arith}
use Rattle.nx_marks.specs.Before.{IsLast}
use Rattle.nx_marks.specs.Chain.{Kept, frontier_of, reach}
use Rattle.nx_marks.specs.Joined.{seen}
use Rattle.nx_marks.specs.Tree.{IsAt, count_up_to}
use Rattle.nx_marks.specs.declared.mark.Mark.{Mark}
use Rattle.nx_marks.proofs.Backs.{reach-append}
use Rattle.nx_marks.proofs.Finding.{found_aside, found-at-hand, found-behind}
use Rattle.nx_marks.proofs.line.Line.find_aside.Goals as goal
use Rattle.nx_marks.proofs.line.Line.find_aside.Goals.{then-next-at-via-then-next-at, then-next-at-via-else-next-at+then-count-eq0}

pub returns-then-next-at : goal.returns-then-next-at
returns-then-next-at g c =
    let k = c.args.self.now in
    let P : Mark _ → Type 0 = λ m. IsLast c.args.at c.reach.result (seen true k) m in
    let at : c.reach.result ≡ frontier_of k = c.reach.ensures ∙ ap (λ (k : Kept _). frontier_of k) c.self.view_is in
    let d : (c.args.at < c.next-next.result) ⊎ (c.marks_aside-count.result ≡ 0) =
    elim c.then-next-at.branch [
      | then-next-at-via-then-next-at w ↦ inl w.if-next-at.true
      | then-next-at-via-else-next-at+then-count-eq0 w ↦ inr w.if-count-eq0.true
    ] in
    subst P (sym (ap (λ (k : Kept _). k.here) c.self.view_is)) (found_aside c.args.at c.reach.result k k.here (found-at-hand c.args.at c.reach.result c.marks_aside-count.result c.next-next.result k c.requires.some at (omega (arith, at, c.requires.there)) c.next-next.ensures.place c.marks_aside-count.ensures.marked c.marks_aside-count.ensures.not d))

pub overflow_add-result : goal.overflow_add-result
overflow_add-result g c =
    let n = ap reach c.get-place.ensures.are in
    let m = reach-append c.get-place.ensures.earlier (c.get-place.result.1.now ∷ c.get-place.ensures.later) in
    let at = ap (λ (k : Kept _). frontier_of k) c.self.view_is in
    let len = ap (λ (k : Kept _). k.here.len) c.self.view_is in
    omega (arith, c.self.invariant.fits, c.next-next.ensures.place, c.get-place.ensures.there)

pub returns : goal.returns
returns g c =
    let k = c.args.self.now in
    let index = c.one_more.result - 1 in
    let P : List (Mark _) → Type 0 = λ l. IsAt l index c.get-place.result.0 c.get-place.result.1.now in
    let i = subst P (ap (λ (k : Kept _). k.aside) c.self.view_is) c.get-place.ensures in
    let before : c.count_up_to-before.result ≡ count_up_to (c.args.at - c.next-next.result) k.aside = c.count_up_to-before.ensures ∙ ap (λ (k : Kept _). count_up_to (c.args.at - c.next-next.result) k.aside) c.self.view_is in
    let or : (index ≡ count_up_to (c.args.at - c.next-next.result) k.aside) ⊎ (index ≡ c.marks_aside-count.result - 1) =
    elim c.one_more.ensures.either [ inl e ↦ inr (ap (λ n. n - 1) e) | inr e ↦ inl (omega (arith, before, e)) ] in
    found_aside c.args.at _ k c.get-place.result.1.now (found-behind c.args.at c.marks_aside-count.result c.next-next.result index c.get-place.result.0 _ k c.get-place.result.1.now c.next-next.ensures.place c.if-next-at.false c.marks_aside-count.ensures.marked c.marks_aside-count.ensures.not
    (omega (arith, before, c.one_more.ensures.most.0), omega (arith, c.one_more.ensures.most.1, c.if-count-eq0.false)) or i refl)
