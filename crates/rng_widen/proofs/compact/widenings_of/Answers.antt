use Rattle.rng_widen.proofs.CompactLoops.{widened_more, widened_all}
use Rattle.rng_widen.proofs.compact.widenings_of.Goals as goal

pub tokens-preserved : goal.tokens-preserved
tokens-preserved c =
    widened_more _ c.args.end c.tokens.context c.in_ok-next.next c.in-Some.token.now c.in-Some.after.now c.tokens.rest.now
    c.in_ok-found.found c.tokens.all.items c.add.new.all.items _ c.in-Some.ensures.cases.0 c.in_ok-found.ensures c.in_ok-add.ensures
    c.in_ok-next.ensures c.tokens.invariant

pub returns : goal.returns
returns c =
    widened_all _ c.args.end c.tokens.context c.tokens.rest.now c.tokens.all.items _ c.in_default.ensures.cases c.tokens.invariant
