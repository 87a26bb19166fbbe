use Rattle.std.proofs.Common.{sym, ◌∙◌}
use Rattle.rng_widen.proofs.CompactHeads.{bound_in_body, bound_here, bound_later, bound_nowhere}
use Rattle.rng_widen.proofs.head.bound.Goals as goal

pub returns-then-is_body : goal.returns-then-is_body
returns-then-is_body c =
    sym (bound_in_body c.args.prefix.now c.tokens.head c.behind_head-next.result c.in-Some.token.now c.in-Some.after.now c.tokens.rest.now
    c.in-Some.ensures.cases.0 c.behind_head-next.ensures c.if-is_body.ensures)
    ∙ c.tokens.invariant

pub returns-in-Some-binds : goal.returns-in-Some-binds
returns-in-Some-binds c =
    sym (bound_here c.args.prefix.now c.tokens.head c.behind_head-next.result c.in-Some.token.now c.in-Some.after.now c.tokens.rest.now
    c.in-Some-binds.found c.in-Some.ensures.cases.0 c.behind_head-next.ensures c.if-is_body.ensures (sym c.in-Some-binds.ensures))
    ∙ c.tokens.invariant

pub tokens-preserved : goal.tokens-preserved
tokens-preserved c =
    bound_later c.args.prefix.now c.tokens.head c.behind_head-next.result c.in-Some.token.now c.in-Some.after.now c.tokens.rest.now
    c.in-Some.ensures.cases.0 c.behind_head-next.ensures c.if-is_body.ensures (sym c.in_default-binds.ensures)
    ∙ c.tokens.invariant

pub returns : goal.returns
returns c = sym (bound_nowhere c.args.prefix.now c.tokens.head c.tokens.rest.now c.in_default.ensures.cases) ∙ c.tokens.invariant
