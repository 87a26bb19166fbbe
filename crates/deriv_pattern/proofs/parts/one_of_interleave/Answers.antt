use Rattle.deriv_pattern.proofs.parts.one_of_interleave.Goals as goal

pub returns : goal.returns
returns c x y h k = c.either.ensures _ _ (c.beside-front.ensures _ h) (c.beside_first.ensures _ k)
