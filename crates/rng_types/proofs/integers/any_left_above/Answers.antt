use Rattle.std.proofs.Common.{sym, ◌∙◌}
use Rattle.std.specs.Prelude.{pos, ◌+ℤ◌}
use Rattle.rng_types.specs.Offsets.{whole_number}
use Rattle.rng_types.specs.NumberMembers.{is_number_left, over}
use Rattle.rng_types.proofs.LeftOver.{some_from}
use Rattle.rng_types.proofs.integers.any_left_above.Goals as goal

pub returns-then-is_left_above : goal.returns-then-is_left_above
returns-then-is_left_above c =
    sym (some_from (λ i. is_number_left c.args.facets.now c.args.excepts.now (over 0 (whole_number c.args.low.now +ℤ pos i))) c.args.count c.loop-above.above c.loop-above-test.true
    (sym c.is_left_above.ensures ∙ c.if-is_left_above.true))
