use Rattle.std.proofs.Common.{◌≡◌, inl, inr, ◌<◌, true, [], List, length, sym, ap, subst, ◌∙◌, arith}
use Rattle.nx_marks.specs.Before.{IsLast, LiesInFront}
use Rattle.nx_marks.specs.Chain.{Kept, frontier_of, reach}
use Rattle.nx_marks.specs.declared.mark.Mark.{Mark}
use Rattle.nx_marks.proofs.Marking.{found_here, found_front}
use Rattle.nx_marks.proofs.Rejoining.{nothing}
use Rattle.nx_marks.proofs.line.Line.mark_up_to_here.Goals as goal
use Rattle.nx_marks.proofs.line.Line.mark_up_to_here.Goals.{else-self-via-then-self+else-here-at, else-self-via-else-self}

pub returns-then-is_empty : goal.returns-then-is_empty
returns-then-is_empty g c =
    let k = c.args.self.now in
    let P : Mark _ → Type 0 = λ m. IsLast c.args.at c.reach-here.result k m in
    let n : length c.self.inside.front ≡ length k.front = ap (λ (i : Kept _). length i.front) c.self.view_is in
    let none : k.front ≡ [] = nothing k.front (grind (arith, n, c.if-is_empty.true, c.is_empty.ensures)) in
    let at : c.reach-here.result ≡ frontier_of k = c.reach-here.ensures ∙ ap (λ (i : Kept _). frontier_of i) c.self.view_is in
    let zero = ap reach none in
    subst P (sym (ap (λ (i : Kept _). i.here) c.self.view_is)) (found_here c.args.at c.reach-here.result k c.requires (inr none) at (omega arith))

pub returns-then-here-at : goal.returns-then-here-at
returns-then-here-at g c =
    let k = c.args.self.now in
    let P : Mark _ → Type 0 = λ m. IsLast c.args.at c.reach-here.result k m in
    let at : c.reach-here.result ≡ frontier_of k = c.reach-here.ensures ∙ ap (λ (i : Kept _). frontier_of i) c.self.view_is in
    let marked : k.marked ≡ true = sym (ap (λ (i : Kept _). i.marked) c.self.view_is) ∙ c.if-self.true in
    subst P (sym (ap (λ (i : Kept _). i.here) c.self.view_is)) (found_here c.args.at c.reach-here.result k c.requires (inl marked) at c.if-here-at.true)

pub returns : goal.returns
returns g c =
    let k = c.args.self.now in
    let P : List (Mark _) → Type 0 = λ l. LiesInFront c.args.at l c.find.result.0 c.find.result.1.now in
    let at : c.reach-here.result ≡ frontier_of k = c.reach-here.ensures ∙ ap (λ (i : Kept _). frontier_of i) c.self.view_is in
    let marked : c.self.inside.marked ≡ k.marked = ap (λ (i : Kept _). i.marked) c.self.view_is in
    let ahead : k.marked ≡ true → c.args.at < frontier_of k = λ m.
    elim c.else-self.branch [
      | else-self-via-then-self+else-here-at w ↦ omega (arith, at, w.if-here-at.false)
      | else-self-via-else-self w ↦ absurd (let no = w.if-self.false in let both = marked ∙ m in cc)
    ] in
    found_front c.args.at c.find.result.0 k c.find.result.1.now (subst P (ap (λ (i : Kept _). i.front) c.self.view_is) c.find.ensures) ahead
