use Rattle.std.proofs.Common.{sym, ◌∙◌, ap}
use Rattle.std.proofs.lemmas.Bool.{ne_eqb, eq-eqb}
use Rattle.rng_more_types.specs.Spaces.{without_trailing}
use Rattle.rng_more_types.specs.Literals.{is_zero_digit}
use Rattle.rng_more_types.proofs.Trailing.{trailing_gone, trailing_kept}
use Rattle.rng_more_types.proofs.spaces.without_trailing_zeros.Goals as goal

pub returns-then-last-ne48 : goal.returns-then-last-ne48
returns-then-last-ne48 c =
    let split = c.in-Some.ensures.cases.0 in
    split ∙ sym (trailing_kept is_zero_digit c.in-Some.front.now c.in-Some.last.now (ne_eqb _ _ c.if-last-ne48.true)) ∙ ap (without_trailing is_zero_digit) (sym split) ∙ c.loop-last.invariant

pub loop-last-preserved : goal.loop-last-preserved
loop-last-preserved c =
    let split = c.in-Some.ensures.cases.0 in
    sym (trailing_gone is_zero_digit c.in-Some.front.now c.in-Some.last.now (eq-eqb _ _ c.if-last-ne48.false)) ∙ ap (without_trailing is_zero_digit) (sym split) ∙ c.loop-last.invariant
