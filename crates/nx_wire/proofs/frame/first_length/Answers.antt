use Rattle.std.proofs.Common.{ap}
use Rattle.nx_wire.proofs.Framing.{all_behind, behind_other}
use Rattle.nx_wire.proofs.frame.first_length.Goals as goal

pub loop-field-preserved : goal.loop-field-preserved
loop-field-preserved c = (
  all_behind c.args.bytes.now c.in-Some.field.now c.loop-field.rest.now c.in-Some.behind.now c.in-Some.ensures.cases.0 c.loop-field.invariant.0,
  λ found h. c.loop-field.invariant.1 found
      (behind_other c.args.bytes.now c.of.result.now c.in-Some.field.now c.loop-field.rest.now c.in-Some.behind.now c.in-Some.ensures.cases.0 c.of.ensures
      c.if-is_length_name.ensures found h),
)
