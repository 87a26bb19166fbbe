use Rattle.std.proofs.Common.{◌≡◌, ◌-◌, ◌∷◌, List, length, ap, subst, arith}
use Rattle.nx_marks.specs.Chain.{Kept, frontier_of, reach}
use Rattle.nx_marks.specs.Tree.{IsAt}
use Rattle.nx_marks.specs.declared.mark.Mark.{Mark}
use Rattle.nx_marks.proofs.Backs.{reach-append}
use Rattle.nx_marks.proofs.Seen.{ends-with, end-there}
use Rattle.nx_marks.proofs.line.Line.end.Goals as goal

pub overflow_add-result : goal.overflow_add-result
overflow_add-result g c =
    let n = ap reach c.get.ensures.are in
    let m = reach-append c.get.ensures.earlier (c.get.result.1.now ∷ c.get.ensures.later) in
    let at = ap (λ (k : Kept _). frontier_of k) c.self.view_is in
    let len = ap (λ (k : Kept _). k.here.len) c.self.view_is in
    omega (arith, c.self.invariant.fits, c.next.ensures.place, c.get.ensures.there)

pub returns : goal.returns
returns g c =
    let k = c.args.self.now in
    let P : List (Mark _) → Type 0 = λ l. IsAt l (c.count-count.result - 1) c.get.result.0 c.get.result.1.now in
    let i = subst P (ap (λ (k : Kept _). k.aside) c.self.view_is) c.get.ensures in
    let n : length c.self.inside.aside ≡ length k.aside = ap (λ (k : Kept _). length k.aside) c.self.view_is in
    let e = end-there k c.get.result.1.now c.get.result.0 (ends-with k.aside (c.count-count.result - 1) c.get.result.0 c.get.result.1.now (grind (arith, n, c.count-count.ensures, c.if-count-eq0.false)) i) in
    omega (arith, e, c.next.ensures.place)
