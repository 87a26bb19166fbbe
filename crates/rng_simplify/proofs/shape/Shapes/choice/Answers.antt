use Rattle.rng_simplify.proofs.Showing.{shown_already, adds_shown, choice_is}
use Rattle.rng_simplify.proofs.shape.Shapes.choice.Goals as goal

pub returns-in-Other-head : goal.returns-in-Other-head
returns-in-Other-head c = adds_shown _ _ _ _ _ _ (choice_is _ _ _ _ _ c.in-Empty.ensures c.in-Other-head.ensures) (λ cells count own. tt) c.add.ensures

pub returns-in-NotAllowed-head-2 : goal.returns-in-NotAllowed-head-2
returns-in-NotAllowed-head-2 c = shown_already _ _ _ _ c.requires.one (choice_is _ _ _ _ _ c.in-Other.ensures c.in-NotAllowed-head-2.ensures)

pub returns-in-Empty-head-2 : goal.returns-in-Empty-head-2
returns-in-Empty-head-2 c = adds_shown _ _ _ _ _ _ (choice_is _ _ _ _ _ c.in-Other.ensures c.in-Empty-head-2.ensures) (λ cells count own. tt) c.add-in-Empty-head-2.ensures

pub returns-in-Other-head-2 : goal.returns-in-Other-head-2
returns-in-Other-head-2 c = adds_shown _ _ _ _ _ _ (choice_is _ _ _ _ _ c.in-Other.ensures c.in-Other-head-2.ensures) (λ cells count own. tt) c.add-in-Other-head-2.ensures
