use Rattle.std.proofs.Common.{◌≡◌, ◌-◌, List, length, ap, subst, arith}
use Rattle.nx_marks.specs.Chain.{Kept}
use Rattle.nx_marks.specs.Tree.{IsAt}
use Rattle.nx_marks.specs.declared.mark.Mark.{Mark}
use Rattle.nx_marks.proofs.Seen.{ends-with, last-read}
use Rattle.nx_marks.proofs.line.Line.last.Goals as goal

pub returns : goal.returns
returns g c =
    let k = c.args.self.now in
    let P : List (Mark _) → Type 0 = λ l. IsAt l (c.count-count.result - 1) c.get.result.0 c.get.result.1.now in
    let i = subst P (ap (λ (k : Kept _). k.aside) c.self.view_is) c.get.ensures in
    let n : length c.self.inside.aside ≡ length k.aside = ap (λ (k : Kept _). length k.aside) c.self.view_is in
    last-read k.here c.get.result.1.now k.aside c.get.result.0 (ends-with k.aside (c.count-count.result - 1) c.get.result.0 c.get.result.1.now (grind (arith, n, c.count-count.ensures, c.if-count-eq0.false)) i)
