use Rattle.std.proofs.Common.{arith, ◌∙◌, ap, ◌+◌, ◌*◌}
use Rattle.std.proofs.lemmas.Str.Parse.{digits_value-take-le}
use Rattle.rng_more_types.proofs.Digits.{number_more, number_fits}
use Rattle.rng_more_types.proofs.reading.value_of.Goals as goal

pub overflow_mul-number : goal.overflow_mul-number
overflow_mul-number c =
    let step = number_more c.args.digits.now c.loop-digit.digit-index c.loop-digit.number c.requires.digits c.requires.few c.loop-digit-test.true c.loop-digit.invariant in
    omega (arith, step.1)

pub overflow_add-number : goal.overflow_add-number
overflow_add-number c =
    let step = number_more c.args.digits.now c.loop-digit.digit-index c.loop-digit.number c.requires.digits c.requires.few c.loop-digit-test.true c.loop-digit.invariant in
    omega (arith, step.1, c.from.ensures)

pub loop-digit-preserved : goal.loop-digit-preserved
loop-digit-preserved c =
    let step = number_more c.args.digits.now c.loop-digit.digit-index c.loop-digit.number c.requires.digits c.requires.few c.loop-digit-test.true c.loop-digit.invariant in
    ap (λ d. c.loop-digit.number * 10 + d) c.from.ensures ∙ step.0

pub returns-clause-small : goal.returns-clause-small
returns-clause-small c =
    let least = digits_value-take-le 10 c.args.digits.now c.loop-digit.digit-index (omega arith) in
    omega (arith, c.loop-digit.invariant, least, number_fits c.args.digits.now c.requires.digits c.requires.few)
