use Rattle.rng_simplify.proofs.Showing.{adds_shown, one_or_more_is}
use Rattle.rng_simplify.proofs.shape.Shapes.one_or_more.Goals as goal

pub returns-in-Other : goal.returns-in-Other
returns-in-Other c = adds_shown _ _ _ _ _ _ (one_or_more_is _ _ _ c.in-Other.ensures) (λ cells count own. tt) c.add.ensures
