use Rattle.rng_simplify.proofs.Showing.{adds_shown, list_is}
use Rattle.rng_simplify.proofs.shape.Shapes.list.Goals as goal

pub returns-in-Empty : goal.returns-in-Empty
returns-in-Empty c = adds_shown _ _ _ _ _ _ (list_is _ _ _ c.in-Empty.ensures) (λ cells count own. tt) c.add.ensures

pub returns-in-Other : goal.returns-in-Other
returns-in-Other c = adds_shown _ _ _ _ _ _ (list_is _ _ _ c.in-Other.ensures) (λ cells count own. tt) c.add-in-Other.ensures
