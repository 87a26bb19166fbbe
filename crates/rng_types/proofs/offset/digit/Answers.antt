use Rattle.std.proofs.Common.{arith}
use Rattle.rng_types.proofs.Apart.{digit_more}
use Rattle.rng_types.proofs.offset.digit.Goals as goal

pub returns-clause-value : goal.returns-clause-value
returns-clause-value c = omega (arith, digit_more c.args.digits.now c.args.left c.requires.digits c.requires.some c.if-left-digits.false, c.from.ensures)
