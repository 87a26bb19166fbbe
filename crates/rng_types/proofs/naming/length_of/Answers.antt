use Rattle.std.proofs.Common.{arith, ◌∙◌, ap, ◌+◌, ◌*◌}
use Rattle.rng_types.proofs.LengthValue.{length_step}
use Rattle.rng_types.proofs.naming.length_of.Goals as goal

pub overflow_mul-number : goal.overflow_mul-number
overflow_mul-number c =
    let step = length_step c.args.value.now c.loop-byte.byte-index c.loop-byte.number c.requires c.loop-byte-test.true c.loop-byte.invariant in
    omega (arith, step.fits)

pub overflow_add-number : goal.overflow_add-number
overflow_add-number c =
    let step = length_step c.args.value.now c.loop-byte.byte-index c.loop-byte.number c.requires c.loop-byte-test.true c.loop-byte.invariant in
    omega (arith, step.fits, c.from.ensures)

pub loop-byte-preserved : goal.loop-byte-preserved
loop-byte-preserved c =
    let step = length_step c.args.value.now c.loop-byte.byte-index c.loop-byte.number c.requires c.loop-byte-test.true c.loop-byte.invariant in
    ap (λ d. c.loop-byte.number * 10 + d) c.from.ensures ∙ step.next
