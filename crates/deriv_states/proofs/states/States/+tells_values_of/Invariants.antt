use Rattle.deriv_states.proofs.states.States.+tells_values_of.Given as goal

abbrev pub decreases-tells_values_of : goal.decreases-tells_values_of
decreases-tells_values_of l = l.state
