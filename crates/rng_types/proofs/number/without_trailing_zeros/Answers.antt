use Rattle.std.proofs.Common.{sym, ◌∙◌, ap}
use Rattle.rng_types.specs.Numbers.{without_trailing_zeros}
use Rattle.rng_types.proofs.Comparing.{without_trailing_zeros-zero, without_trailing_zeros-other}
use Rattle.rng_types.proofs.number.without_trailing_zeros.Goals as goal

pub returns-then-last-ne48 : goal.returns-then-last-ne48
returns-then-last-ne48 c =
    let split = c.in-Some.ensures.cases.0 in
    split ∙ sym (without_trailing_zeros-other c.in-Some.front.now c.in-Some.last.now c.if-last-ne48.true) ∙ ap without_trailing_zeros (sym split) ∙ c.loop-last.invariant

pub loop-last-preserved : goal.loop-last-preserved
loop-last-preserved c =
    let split = c.in-Some.ensures.cases.0 in
    sym (without_trailing_zeros-zero c.in-Some.front.now c.in-Some.last.now c.if-last-ne48.false) ∙ ap without_trailing_zeros (sym split) ∙ c.loop-last.invariant
