use Rattle.std.proofs.Common.{ap, sym, ◌∙◌, arith}
use Rattle.nx_marks.specs.Chain.{reach}
use Rattle.nx_marks.specs.Tree.{count_up_to}
use Rattle.nx_marks.proofs.Topping.{counts-all, counts-below}
use Rattle.nx_marks.proofs.front.Front.count_up_to.Goals as goal

pub returns-then-self-at : goal.returns-then-self-at
returns-then-self-at g c =
    let r = c.self.invariant.reaches in
    let n = ap reach c.self.view_is in
    c.count.ensures ∙ sym (counts-all c.args.at c.args.self.now (omega (arith, c.if-self-at.true)))

pub returns : goal.returns
returns g c = c.count_up_to.ensures ∙ counts-below c.args.at c.self.inside.reach c.self.inside.below c.self.inside.top c.self.invariant c.if-self-at.false ∙ ap (count_up_to c.args.at) c.self.view_is
