use Rattle.deriv_pattern.proofs.solid.+loosened.Goals as goal

pub returns-in-Value : goal.returns-in-Value
returns-in-Value t c = rw c.in-Value.is (rw c.in-Value.is at (c.boxed_where-in-Value.ensures _ c.is_solid.ensures))
