use Rattle.std.proofs.Common.{ℕ, List, ap, sym, ◌∙◌, ◌+◌, arith}
use Rattle.rng_types.specs.Numbers.{is_decimal, number_of}
use Rattle.rng_types.specs.NumberMembers.{is_number_left}
use Rattle.rng_types.specs.Giving.{pointed, extended}
use Rattle.rng_types.proofs.Tried.{more_fail}
use Rattle.rng_types.proofs.NumbersLeft.{beyond_decimal, beyond_text}
use Rattle.rng_types.proofs.left_numbers.left_beyond.Goals as goal

pub meets_all-requires-clause-number : goal.meets_all-requires-clause-number
meets_all-requires-clause-number c =
    ap is_decimal c.as_slice-2.ensures ∙ beyond_decimal c.in_ok-first.first c.as_slice.result.now c.args.base.now c.args.zeros 1 c.requires.base (c.as_slice.ensures ∙ c.in_ok-whole.ensures) c.in_ok-first.ensures (omega arith)

pub is_number_left-requires-clause-number : goal.is_number_left-requires-clause-number
is_number_left-requires-clause-number c =
    ap is_decimal c.as_slice-in-loop-number-2.ensures
    ∙ beyond_decimal c.in_ok-text.text c.as_slice-in-loop-number.result.now c.args.base.now c.args.zeros (c.loop-number.number + 1) c.requires.base (c.as_slice-in-loop-number.ensures ∙ c.in_ok-whole.ensures) c.in_ok-text.ensures
    (omega (arith, c.loop-number-test.true))

pub returns-then-is_number_left : goal.returns-then-is_number_left
returns-then-is_number_left c = (
  beyond_decimal c.in_ok-text.text c.as_slice-in-loop-number.result.now c.args.base.now c.args.zeros (c.loop-number.number + 1) c.requires.base (c.as_slice-in-loop-number.ensures ∙ c.in_ok-whole.ensures) c.in_ok-text.ensures
      (omega (arith, c.loop-number-test.true)),
  ap (λ t. is_number_left c.args.facets.now c.args.excepts.now (number_of t)) (sym c.as_slice-in-loop-number-2.ensures) ∙ sym c.is_number_left.ensures ∙ c.if-is_number_left.true,
)

pub loop-number-preserved : goal.loop-number-preserved
loop-number-preserved c =
    more_fail (λ (t : List ℕ). is_number_left c.args.facets.now c.args.excepts.now (number_of t)) (λ (i : ℕ). extended (pointed c.args.base.now) c.args.zeros (i + 1)) c.loop-number.number c.as_slice-in-loop-number-2.result.now c.is_number_left.result
    c.loop-number.invariant
    (c.as_slice-in-loop-number-2.ensures ∙ beyond_text c.in_ok-text.text c.as_slice-in-loop-number.result.now c.args.base.now c.args.zeros (c.loop-number.number + 1) (c.as_slice-in-loop-number.ensures ∙ c.in_ok-whole.ensures) c.in_ok-text.ensures)
    c.is_number_left.ensures c.if-is_number_left.false
