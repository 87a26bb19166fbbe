use Rattle.std.proofs.Common.{arith}
use Rattle.nx_wire.proofs.Lengths.{all_digits, many_digits, no_digits, read_length, short_front}
use Rattle.nx_wire.proofs.frame.length_in.Goals as goal

pub returns-then-digits-value-clause-none : goal.returns-then-digits-value-clause-none
returns-then-digits-value-clause-none c =
    λ len. short_front c.args.value.now c.leading_digits-digits.result len c.leading_digits-digits.ensures.counted (omega (arith, c.if-digits-value.true))

pub returns-then-digits-gt-MOST_DIGITS-clause-none : goal.returns-then-digits-gt-MOST_DIGITS-clause-none
returns-then-digits-gt-MOST_DIGITS-clause-none c =
    λ len. many_digits c.args.value.now c.leading_digits-digits.result len c.leading_digits-digits.ensures.within (omega (arith, c.if-digits-gt-MOST_DIGITS.true))

pub returns-then-digits-lt1-clause-none : goal.returns-then-digits-lt1-clause-none
returns-then-digits-lt1-clause-none c =
    λ len. no_digits c.args.value.now c.leading_digits-digits.result len (omega (arith, c.if-digits-value.false)) (omega (arith, c.if-digits-lt1.true))

pub number_of-requires-clause-digits : goal.number_of-requires-clause-digits
number_of-requires-clause-digits c =
    all_digits c.args.value.now (omega (arith, c.leading_digits-digits.ensures.counted, c.if-digits-value.false))

pub returns-clause-some : goal.returns-clause-some
returns-clause-some c =
    read_length c.args.value.now c.leading_digits-digits.result c.number_of.result c.leading_digits-digits.ensures.counted (omega (arith, c.if-digits-value.false))
    (omega (arith, c.if-digits-gt-MOST_DIGITS.false)) (omega (arith, c.if-digits-lt1.false)) c.leading_digits-digits.ensures.within
    c.number_of.ensures
