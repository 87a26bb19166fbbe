use Rattle.std.proofs.Common.{sym, ◌∙◌}
use Rattle.rng_widen.proofs.CompactHeads.{body_here, body_later, body_nowhere}
use Rattle.rng_widen.proofs.head.body.Goals as goal

pub returns-then-is_body : goal.returns-then-is_body
returns-then-is_body c =
    sym (body_here c.tokens.head c.behind_head-next.result c.in-Some.token.now c.in-Some.after.now c.tokens.rest.now
    c.in-Some.ensures.cases.0 c.behind_head-next.ensures c.if-is_body.ensures)
    ∙ c.tokens.invariant

pub tokens-preserved : goal.tokens-preserved
tokens-preserved c =
    body_later c.tokens.head c.behind_head-next.result c.in-Some.token.now c.in-Some.after.now c.tokens.rest.now
    c.in-Some.ensures.cases.0 c.behind_head-next.ensures c.if-is_body.ensures
    ∙ c.tokens.invariant

pub returns : goal.returns
returns c = sym (body_nowhere c.tokens.head c.tokens.rest.now c.in_default.ensures.cases) ∙ c.tokens.invariant
