use Rattle.std.proofs.Common.{sym, ◌∙◌, ap}
use Rattle.std.specs.Ordering.{ordering_reverse}
use Rattle.rng_types.proofs.Comparing.{compare_above, compare_below, compare_less, compare_greater}
use Rattle.rng_types.proofs.number.compare.Goals as goal

pub returns-in-true-true : goal.returns-in-true-true
returns-in-true-true c =
    c.reverse.ensures ∙ ap ordering_reverse c.compare_magnitudes-magnitudes.ensures
    ∙ compare_below c.args.a.now c.args.b.now (sym c.in-true-true.ensures) (sym c.in-true-true.ensures')

pub returns-in-true-false : goal.returns-in-true-false
returns-in-true-false c = compare_less c.args.a.now c.args.b.now (sym c.in-true-false.ensures) (sym c.in-true-false.ensures')

pub returns-in-false-true : goal.returns-in-false-true
returns-in-false-true c = compare_greater c.args.a.now c.args.b.now (sym c.in-false-true.ensures) (sym c.in-false-true.ensures')

pub returns-in-false-false : goal.returns-in-false-false
returns-in-false-false c =
    c.compare_magnitudes-magnitudes.ensures
    ∙ compare_above c.args.a.now c.args.b.now (sym c.in-false-false.ensures) (sym c.in-false-false.ensures')
