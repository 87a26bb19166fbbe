use Rattle.std.proofs.Common.{◌≡◌, ◌<◌, length, ap, ◌∙◌, arith}
use Rattle.nx_marks.specs.Chain.{Kept, frontier_of, reach}
use Rattle.nx_marks.proofs.Passing.{let_went, passed_front}
use Rattle.nx_marks.proofs.Holding.{last_held}
use Rattle.nx_marks.proofs.line.Line.let_go.Goals as goal

pub returns-then-not-is_empty : goal.returns-then-not-is_empty
returns-then-not-is_empty g c =
    let n : length c.self.inside.aside ≡ length c.pass_up_to.new.self.aside = ap (λ (k : Kept _). length k.aside) c.self.view_is in
    let some : 0 < length c.pass_up_to.new.self.aside = grind (arith, n, c.if-not-is_empty.true, c.is_empty.ensures) in
    let_went c.args.count c.args.self.now c.pass_up_to.new.self c.pass_up_to.ensures some

pub invariant_of-self : goal.invariant_of-self
invariant_of-self g c =
    let at : reach c.self.inside.front ≡ frontier_of c.args.self.now = ap (λ (k : Kept _). frontier_of k) c.self.view_is ∙ ap reach (passed_front c.args.count c.args.self.now c.pass_up_to.new.self c.pass_up_to.ensures) in
    last_held c.self.inside.front c.self.inside.here _ c.self.inside.aside c.self.invariant
    (grind (arith, c.is_empty.ensures, c.if-not-is_empty.false)) (omega (arith, at, c.requires))
