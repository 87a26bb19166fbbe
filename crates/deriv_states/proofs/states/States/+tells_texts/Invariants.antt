use Rattle.deriv_states.proofs.states.States.+tells_texts.Given as goal

abbrev pub decreases-tells_texts : goal.decreases-tells_texts
decreases-tells_texts l = l.state
