use Rattle.std.proofs.Common.{refl, arith}
use Rattle.rngx_read.proofs.Answering.{begins_here, begins_behind}
use Rattle.rngx_read.proofs.read.place.Goals as goal

pub returns-then-token-at : goal.returns-then-token-at
returns-then-token-at c some =
    c.tokens.invariant c.args.at (begins_here c.in-Some.token.now c.in-Some.behind.now c.tokens.rest.now c.args.at c.in-Some.ensures.cases.0
    (omega arith))

pub tokens-preserved : goal.tokens-preserved
tokens-preserved c at h =
    c.tokens.invariant at (begins_behind c.in-Some.token.now c.in-Some.behind.now c.tokens.rest.now at c.in-Some.ensures.cases.0 h)

pub returns-in-Some-split_first : goal.returns-in-Some-split_first
returns-in-Some-split_first c some =
    begins_here c.in-Some-split_first.first.now c.in-Some-split_first.field-0-1.now c.args.tokens.now c.in-Some-split_first.first.now.from
    c.in-Some-split_first.ensures.cases.0 refl
