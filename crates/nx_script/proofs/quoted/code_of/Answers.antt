use Rattle.std.proofs.Common.{◌+◌, ◌*◌, ap, ◌∙◌, arith}
use Rattle.std.specs.Char.{digit_value}
use Rattle.nx_script.proofs.Numbers.{code_more}
use Rattle.nx_script.proofs.quoted.code_of.Goals as goal

pub overflow_mul-code : goal.overflow_mul-code
overflow_mul-code c =
    let step = code_more c.args.digits.now c.loop-digit.digit-index c.loop-digit.code c.requires.digits c.requires.short c.loop-digit-test.true c.loop-digit.invariant in
    omega (arith, step.1)

pub unwrap-requires : goal.unwrap-requires
unwrap-requires c =
    let step = code_more c.args.digits.now c.loop-digit.digit-index c.loop-digit.code c.requires.digits c.requires.short c.loop-digit-test.true c.loop-digit.invariant in
    c.to_digit.ensures.succeeds (rw c.from.ensures step.2)

pub overflow_add-code : goal.overflow_add-code
overflow_add-code c =
    let step = code_more c.args.digits.now c.loop-digit.digit-index c.loop-digit.code c.requires.digits c.requires.short c.loop-digit-test.true c.loop-digit.invariant in
    let worth = (rw c.unwrap.ensures at c.to_digit.ensures.value).1 ∙ ap digit_value c.from.ensures in
    omega (arith, step.1, worth)

pub loop-digit-preserved : goal.loop-digit-preserved
loop-digit-preserved c =
    let step = code_more c.args.digits.now c.loop-digit.digit-index c.loop-digit.code c.requires.digits c.requires.short c.loop-digit-test.true c.loop-digit.invariant in
    let worth = (rw c.unwrap.ensures at c.to_digit.ensures.value).1 ∙ ap digit_value c.from.ensures in
    ap (λ digit. c.loop-digit.code * 16 + digit) worth ∙ step.0
