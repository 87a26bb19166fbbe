use Rattle.std.proofs.Common.{◌+◌, ◌*◌, ap, ◌∙◌, arith}
use Rattle.nx_wire.proofs.Lengths.{number_more}
use Rattle.nx_wire.proofs.frame.number_of.Goals as goal

pub overflow_mul-number : goal.overflow_mul-number
overflow_mul-number c =
    let step = number_more c.args.digits.now c.loop-digit.digit-index c.loop-digit.number c.requires.digits c.requires.short c.loop-digit-test.true c.loop-digit.invariant in
    omega (arith, step.1)

pub overflow_sub-digit : goal.overflow_sub-digit
overflow_sub-digit c =
    let step = number_more c.args.digits.now c.loop-digit.digit-index c.loop-digit.number c.requires.digits c.requires.short c.loop-digit-test.true c.loop-digit.invariant in
    omega (arith, step.2)

pub overflow_add-number : goal.overflow_add-number
overflow_add-number c =
    let step = number_more c.args.digits.now c.loop-digit.digit-index c.loop-digit.number c.requires.digits c.requires.short c.loop-digit-test.true c.loop-digit.invariant in
    omega (arith, step.1)

pub loop-digit-preserved : goal.loop-digit-preserved
loop-digit-preserved c =
    let step = number_more c.args.digits.now c.loop-digit.digit-index c.loop-digit.number c.requires.digits c.requires.short c.loop-digit-test.true c.loop-digit.invariant in
    ap (λ digit. c.loop-digit.number * 10 + digit) c.from.ensures ∙ step.0
