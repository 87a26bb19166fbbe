use Rattle.std.proofs.lemmas.Result.{err_from_is_err_and}
use Rattle.std.proofs.lemmas.List.{take_rest}
use Rattle.rnc_lex.proofs.TokenSteps.{tokens_more, tokens_fault, tokens_end, no_letter}
use Rattle.rnc_lex.proofs.lex.tokens_of.Goals as goal

pub returns-in_err-front : goal.returns-in_err-front
returns-in_err-front c =
    let fault = err_from_is_err_and c.from_residual.result c.from_residual.ensures.1 in
    rw (fault.1, fault.2) (tokens_fault c.in-Some.first.now c.in-Some.behind.now c.loop-first.rest.now c.in_err-front.field-0.0 c.loop-first.tokens _ c.in-Some.ensures.cases.0 c.in_err-front.ensures.found c.loop-first.invariant)

pub loop-first-preserved : goal.loop-first-preserved
loop-first-preserved c =
    tokens_more c.in-Some.first.now c.in-Some.behind.now c.loop-first.rest.now _ c.in_ok-front.front c.loop-first.tokens c.add.new.tokens _ c.in-Some.ensures.cases.0 c.in_ok-front.ensures.found c.in_ok-front.ensures.within (take_rest c.in-Some.behind.now c.in_ok-front.front.more) c.in_ok-add.ensures c.loop-first.invariant

pub returns : goal.returns
returns c = tokens_end c.loop-first.rest.now c.loop-first.tokens _ (no_letter c.loop-first.rest.now c.in_default.ensures.cases) c.loop-first.invariant
