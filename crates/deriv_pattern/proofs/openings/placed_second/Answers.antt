use Rattle.deriv_pattern.proofs.openings.placed_second.Goals as goal

pub returns : goal.returns
returns c = c.unboxed.ensures _ (c.beside_first.ensures _ c.boxed-rest.ensures)
