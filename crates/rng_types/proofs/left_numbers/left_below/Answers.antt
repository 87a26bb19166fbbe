use Rattle.std.proofs.Common.{ℕ, List, [], ap, sym, ◌∙◌, ◌∷◌, arith}
use Rattle.rng_types.specs.Numbers.{is_decimal, number_of}
use Rattle.rng_types.specs.NumberMembers.{is_number_left}
use Rattle.rng_types.specs.Giving.{extended}
use Rattle.rng_types.proofs.Tried.{more_fail}
use Rattle.rng_types.proofs.Whole.{integer_bounds}
use Rattle.rng_types.proofs.NumbersLeft.{decimal_excepts, far_decimal, far_integer, far_text, far_left}
use Rattle.rng_types.proofs.left_numbers.left_below.Goals as goal

pub is_number_left-requires-clause-number : goal.is_number_left-requires-clause-number
is_number_left-requires-clause-number c =
    ap is_decimal c.as_slice.ensures ∙ far_decimal c.in_ok-text.text c.as_bytes.result.now c.longest_limit-zeros.result c.loop-number.number c.as_bytes.ensures.value c.in_ok-text.ensures c.loop-number-test.true

pub is_number_left-requires-clause-bounds : goal.is_number_left-requires-clause-bounds
is_number_left-requires-clause-bounds c = integer_bounds c.args.facets.now c.requires.bounds

pub is_number_left-requires-clause-others : goal.is_number_left-requires-clause-others
is_number_left-requires-clause-others c = decimal_excepts c.args.excepts.now c.requires.others

pub returns-then-is_number_left : goal.returns-then-is_number_left
returns-then-is_number_left c = (
  far_integer c.in_ok-text.text c.as_bytes.result.now c.longest_limit-zeros.result c.loop-number.number c.as_bytes.ensures.value c.in_ok-text.ensures c.loop-number-test.true,
  ap (λ t. is_number_left c.args.facets.now c.args.excepts.now (number_of t)) (sym c.as_slice.ensures) ∙ sym c.is_number_left.ensures ∙ c.if-is_number_left.true,
)

pub loop-number-preserved : goal.loop-number-preserved
loop-number-preserved c =
    more_fail (λ (t : List ℕ). is_number_left c.args.facets.now c.args.excepts.now (number_of t)) (λ (i : ℕ). extended (45 ∷ 49 ∷ []) c.longest_limit-zeros.result i) c.loop-number.number c.as_slice.result.now c.is_number_left.result
    c.loop-number.invariant (c.as_slice.ensures ∙ far_text c.in_ok-text.text c.as_bytes.result.now c.longest_limit-zeros.result c.loop-number.number c.as_bytes.ensures.value c.in_ok-text.ensures)
    c.is_number_left.ensures c.if-is_number_left.false

pub returns : goal.returns
returns c =
    far_left c.longest_limit-zeros.result c.args.facets.now c.args.excepts.now c.requires.bounds c.longest_limit-zeros.ensures c.requires.few c.requires.upper
    (λ i small. c.loop-number.invariant i (omega (arith, small, c.loop-number-test.false)))
