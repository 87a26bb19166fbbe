use Rattle.std.proofs.lemmas.Result.{err_from_is_err_and}
use Rattle.nx_locate.proofs.Giving.{resource_refused, by_resource_true, by_pattern_true, by_neither_true}
use Rattle.nx_locate.proofs.leading.uri_gives.Goals as goal

pub returns-in_err-resource_applies : goal.returns-in_err-resource_applies
returns-in_err-resource_applies c =
    let p = err_from_is_err_and c.from_residual.result c.from_residual.ensures.1 in
    rw (p.1, p.2) (resource_refused c.args.rules.now c.args.document.now c.args.base.now c.args.resource.now c.args.pattern.now
    c.args.target.now c.in_err-resource_applies.field-0.0 c.in_err-resource_applies.ensures)

pub returns-then-branch : goal.returns-then-branch
returns-then-branch c =
    by_resource_true c.args.rules.now c.args.document.now c.args.base.now c.args.resource.now c.args.pattern.now c.args.target.now
    c.in_ok-resource_applies.field-0 c.schema_of.result c.if-branch.true c.in_ok-resource_applies.ensures c.schema_of.ensures

pub returns-then-branch-2 : goal.returns-then-branch-2
returns-then-branch-2 c =
    by_pattern_true c.args.rules.now c.args.document.now c.args.base.now c.args.resource.now c.args.pattern.now c.args.target.now
    c.in_ok-resource_applies.field-0 c.in_ok-pattern_applies.field-0 c.schema_of-then-branch-2.result c.if-branch.false
    c.in_ok-resource_applies.ensures c.if-branch-2.true c.in_ok-pattern_applies.ensures c.schema_of-then-branch-2.ensures

pub returns : goal.returns
returns c = (
  tt,
  by_neither_true c.args.rules.now c.args.document.now c.args.base.now c.args.resource.now c.args.pattern.now c.args.target.now
      c.in_ok-resource_applies.field-0 c.in_ok-pattern_applies.field-0 c.if-branch.false c.in_ok-resource_applies.ensures
      c.if-branch-2.false c.in_ok-pattern_applies.ensures,
)
