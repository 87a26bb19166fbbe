use Rattle.std.proofs.Common.{ap, ◌∙◌, ◌+◌, ◌*◌, min}
use Rattle.nx_base.proofs.CodePoints.{code_more}
use Rattle.nx_base.proofs.character_code.code_of_digits.Goals as goal

pub loop-digit-preserved : goal.loop-digit-preserved
loop-digit-preserved c =
    c.min-code.ensures ∙ ap (λ d. min (c.loop-digit.code * c.args.base + d) 0x110000) c.digit_value.ensures
    ∙ code_more c.args.base c.args.digits.now c.loop-digit.digit-index c.loop-digit.code c.requires.some c.loop-digit-test.true c.loop-digit.invariant
