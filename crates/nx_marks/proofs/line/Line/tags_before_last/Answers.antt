use Rattle.std.proofs.Common.{◌≡◌, ◌-◌, List, length, ap, subst, ◌∙◌, arith}
use Rattle.nx_marks.specs.Chain.{Kept}
use Rattle.nx_marks.specs.Tree.{IsAt}
use Rattle.nx_marks.specs.declared.mark.Mark.{Mark}
use Rattle.nx_marks.proofs.Seen.{tags-alone, tags-second}
use Rattle.nx_marks.proofs.line.Line.tags_before_last.Goals as goal

pub returns-then-count-eq1 : goal.returns-then-count-eq1
returns-then-count-eq1 g c =
    let k = c.args.self.now in
    let n : length c.self.inside.aside ≡ length k.aside = ap (λ (k : Kept _). length k.aside) c.self.view_is in
    ap (λ (k : Kept _). k.here.tags) c.self.view_is ∙ tags-alone k.front k.here k.aside (grind (arith, n, c.count-count.ensures, c.if-count-eq1.true))

pub returns : goal.returns
returns g c =
    let k = c.args.self.now in
    let P : List (Mark _) → Type 0 = λ l. IsAt l (c.count-count.result - 2) c.get.result.0 c.get.result.1.now in
    let i = subst P (ap (λ (k : Kept _). k.aside) c.self.view_is) c.get.ensures in
    let n : length c.self.inside.aside ≡ length k.aside = ap (λ (k : Kept _). length k.aside) c.self.view_is in
    tags-second k.front k.here c.get.result.1.now k.aside (c.count-count.result - 2) c.get.result.0 (grind (arith, n, c.requires, c.count-count.ensures, c.if-count-eq1.false)) i
