use Rattle.std.proofs.Common.{ap, sym, ◌∙◌}
use Rattle.rng_types.specs.Numbers.{is_decimal, number_of}
use Rattle.rng_types.specs.NumberMembers.{is_number_left}
use Rattle.rng_types.proofs.NumbersLeft.{bound_at, limit_decimal, limit_left}
use Rattle.rng_types.proofs.left_numbers.left_limit.Goals as goal

pub returns-then-is_limit_left : goal.returns-then-is_limit_left
returns-then-is_limit_left c = (
  ap is_decimal c.in_ok-text.ensures ∙ limit_decimal c.facet-item.result c.limit_of.result.now (bound_at c.args.facets.now c.loop-facet.facet-index c.facet-item.result c.requires.bounds c.loop-facet-test.true c.facet-item.is) c.limit_of.ensures,
  ap (λ t. is_number_left c.args.facets.now c.args.excepts.now (number_of t)) c.in_ok-text.ensures
      ∙ limit_left c.args.facets.now c.args.excepts.now c.facet-item.result c.limit_of.result.now c.limit_of.ensures (sym c.is_limit_left.ensures ∙ c.if-is_limit_left.true),
)
