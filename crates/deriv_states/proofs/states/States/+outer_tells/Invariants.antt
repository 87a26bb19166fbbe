use Rattle.deriv_states.proofs.states.States.+outer_tells.Given as goal

abbrev pub decreases-outer_tells : goal.decreases-outer_tells
decreases-outer_tells l = l.here
