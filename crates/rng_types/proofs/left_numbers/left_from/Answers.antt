use Rattle.std.proofs.Common.{sym, ◌∙◌}
use Rattle.std.specs.Prelude.{pos, ◌+ℤ◌}
use Rattle.rng_types.specs.Offsets.{whole_number}
use Rattle.rng_types.proofs.NumbersLeft.{plus_left}
use Rattle.rng_types.proofs.left_numbers.left_from.Goals as goal

pub returns-then-is_left_above : goal.returns-then-is_left_above
returns-then-is_left_above c = (
  c.in_ok-text.ensures.0,
  plus_left c.args.facets.now c.args.excepts.now c.in_ok-text.text (whole_number c.args.low.now +ℤ pos c.loop-above.above) c.in_ok-text.ensures.0 c.in_ok-text.ensures.1 (sym c.is_left_above.ensures ∙ c.if-is_left_above.true),
)
