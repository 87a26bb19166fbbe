use Rattle.std.proofs.Common.{None, Some, arith}
use Rattle.rnc_parse.proofs.TooDeep.{deep_end, deep_more, deep_here, deep_is, no_token}
use Rattle.rnc_parse.proofs.read.too_deep_at.Goals as goal

pub returns-then-open-gt-MOST_BRACKETS : goal.returns-then-open-gt-MOST_BRACKETS
returns-then-open-gt-MOST_BRACKETS c = deep_is c.args.tokens.now (Some c.in-Some.token.now.at) (c.brackets.invariant.1 (Some c.in-Some.token.now.at) (deep_here c.brackets.open c.open_with-open.result c.in-Some.token.now c.in-Some.behind.now c.brackets.rest.now c.in-Some.ensures.cases.0 c.brackets.invariant.0 c.open_with-open.ensures (omega (arith, c.if-open-gt-MOST_BRACKETS.true))))

pub brackets-preserved : goal.brackets-preserved
brackets-preserved c = (omega (arith, c.if-open-gt-MOST_BRACKETS.false), λ answer h. c.brackets.invariant.1 answer (deep_more c.brackets.open c.open_with-open.result c.in-Some.token.now c.in-Some.behind.now c.brackets.rest.now answer c.in-Some.ensures.cases.0 c.brackets.invariant.0 c.open_with-open.ensures h))

pub returns : goal.returns
returns c = deep_is c.args.tokens.now None (c.brackets.invariant.1 None (deep_end c.brackets.open c.brackets.rest.now (no_token c.brackets.rest.now c.in_default.ensures.cases) c.brackets.invariant.0))
