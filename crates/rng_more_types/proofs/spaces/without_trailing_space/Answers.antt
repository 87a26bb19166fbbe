use Rattle.std.proofs.Common.{sym, ◌∙◌, ap}
use Rattle.rng_more_types.specs.Spaces.{without_trailing, is_space}
use Rattle.rng_more_types.proofs.Trailing.{trailing_gone, trailing_kept}
use Rattle.rng_more_types.proofs.spaces.without_trailing_space.Goals as goal

pub returns-then-not-is_space : goal.returns-then-not-is_space
returns-then-not-is_space c =
    let split = c.in-Some.ensures.cases.0 in
    split ∙ sym (trailing_kept is_space c.in-Some.front.now c.in-Some.last.now (sym c.is_space.ensures ∙ c.if-not-is_space.true)) ∙ ap (without_trailing is_space) (sym split) ∙ c.loop-last.invariant

pub loop-last-preserved : goal.loop-last-preserved
loop-last-preserved c =
    let split = c.in-Some.ensures.cases.0 in
    sym (trailing_gone is_space c.in-Some.front.now c.in-Some.last.now (sym c.is_space.ensures ∙ c.if-not-is_space.false)) ∙ ap (without_trailing is_space) (sym split) ∙ c.loop-last.invariant
