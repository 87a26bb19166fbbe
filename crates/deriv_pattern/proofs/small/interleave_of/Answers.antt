use Rattle.deriv_pattern.proofs.small.interleave_of.Goals as goal

pub returns : goal.returns
returns c = c.unboxed.ensures _ (c.beside.ensures _ c.boxed.ensures)
