use Rattle.rng_simplify.proofs.Showing.{shown_already, adds_shown, both_first, both_are}
use Rattle.rng_simplify.proofs.shape.Shapes.both.Goals as goal

pub returns-in-Empty : goal.returns-in-Empty
returns-in-Empty c = shown_already _ _ _ _ c.requires.other (both_first _ _ _ _ c.in-Empty.ensures c.requires.no_choice)

pub returns-in-NotAllowed-head : goal.returns-in-NotAllowed-head
returns-in-NotAllowed-head c = shown_already _ _ _ _ c.requires.other (both_are _ _ _ _ _ c.in-Other.ensures c.in-NotAllowed-head.ensures _ c.requires.no_choice)

pub returns-in-Empty-head : goal.returns-in-Empty-head
returns-in-Empty-head c = shown_already _ _ _ _ c.requires.one (both_are _ _ _ _ _ c.in-Other.ensures c.in-Empty-head.ensures _ c.requires.no_choice)

pub returns-in-Other-head : goal.returns-in-Other-head
returns-in-Other-head c = adds_shown _ _ _ _ _ _ (both_are _ _ _ _ _ c.in-Other.ensures c.in-Other-head.ensures _ c.requires.no_choice) (λ cells count own. tt) c.add.ensures
