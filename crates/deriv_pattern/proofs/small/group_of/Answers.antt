use Rattle.deriv_pattern.proofs.small.group_of.Goals as goal

pub returns : goal.returns
returns c = c.unboxed.ensures _ (c.before-2.ensures _ c.boxed.ensures)
