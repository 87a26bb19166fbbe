use Rattle.std.proofs.Common.{arith}
use Rattle.rng_types.proofs.Replaced.{replaced_by_index, replaced_index}
use Rattle.rng_types.proofs.sameness.same_replaced.Goals as goal

pub returns : goal.returns
returns c = (
  λ each. replaced_by_index c.args.a.now c.args.b.now c.if-a-b.false (c.same_each.ensures.0 each),
  λ same. c.same_each.ensures.1 (λ k h. replaced_index c.args.a.now c.args.b.now k same h (omega arith)),
)
