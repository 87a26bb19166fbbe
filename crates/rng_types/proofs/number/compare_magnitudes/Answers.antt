use Rattle.rng_types.proofs.Comparing.{magnitudes_compare}
use Rattle.rng_types.proofs.number.compare_magnitudes.Goals as goal

pub returns : goal.returns
returns c =
    rw (c.then.ensures, c.then-wholes.ensures, c.cmp.ensures, c.cmp-2.ensures, c.cmp-fractions.ensures)
    (rw (c.without_leading_zeros-first.ensures, c.without_leading_zeros-second.ensures, c.without_trailing_zeros.ensures, c.without_trailing_zeros-2.ensures)
    (rw (c.whole_part.ensures, c.whole_part-2.ensures, c.fraction_part.ensures, c.fraction_part-2.ensures)
    (magnitudes_compare c.args.a.now c.args.b.now c.requires.first c.requires.second)))
