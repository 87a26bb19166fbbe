use Rattle.deriv_states.proofs.states.States.+chars_outer.Given as goal

abbrev pub decreases-chars_outer : goal.decreases-chars_outer
decreases-chars_outer l = l.here
