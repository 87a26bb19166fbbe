use Rattle.std.proofs.Common.{List, ap, subst, arith}
use Rattle.nx_marks.specs.Before.{LiesInFront}
use Rattle.nx_marks.specs.Chain.{Kept, frontier_of}
use Rattle.nx_marks.specs.declared.mark.Mark.{Mark}
use Rattle.nx_marks.proofs.Finding.{found_either}
use Rattle.nx_marks.proofs.line.Line.mark_before.Goals as goal

pub returns : goal.returns
returns g c =
    let k = c.args.self.now in
    let P : List (Mark _) → Type 0 = λ l. LiesInFront c.args.at l c.find.result.0 c.find.result.1.now in
    let at = ap (λ (i : Kept _). frontier_of i) c.self.view_is in
    found_either c.args.joined c.args.at c.find.result.0 k c.find.result.1.now (subst P (ap (λ (i : Kept _). i.front) c.self.view_is) c.find.ensures) (omega (arith, at, c.reach.ensures, c.if-reach-at.false))
