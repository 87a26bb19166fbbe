use Rattle.std.proofs.Common.{sym, subst, []}
use Rattle.nx_locate.specs.Leading.{Leads, GivesIf, applies, passed_over, nothing}
use Rattle.nx_locate.proofs.Giving.{answers_with}
use Rattle.nx_locate.proofs.leading.schema_if.Goals as goal

pub returns-then-applies : goal.returns-then-applies
returns-then-applies c =
    let rules = c.args.rules.now in
    let base = c.args.base.now in
    let target = c.args.target.now in
    answers_with (Leads rules [] base target) (GivesIf rules base target c.args.applies) c.schema_of.result
    (λ outcome h. subst (λ b. GivesIf rules base target b outcome) (sym c.if-applies.true) (applies h)) c.schema_of.ensures

pub returns-else-applies : goal.returns-else-applies
returns-else-applies c =
    (tt, subst (λ b. GivesIf c.args.rules.now c.args.base.now c.args.target.now b nothing) (sym c.if-applies.false) passed_over)
