use Rattle.rng_simplify.proofs.Showing.{has_head}
use Rattle.rng_simplify.proofs.shape.Shapes.head.Goals as goal

pub returns : goal.returns
returns c = has_head _ _ _ _ c.shape.ensures.there c.shape.ensures.behind c.head_of.ensures
