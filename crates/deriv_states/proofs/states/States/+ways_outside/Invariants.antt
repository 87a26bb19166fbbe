use Rattle.deriv_states.proofs.states.States.+ways_outside.Given as goal

abbrev pub decreases-ways_outside : goal.decreases-ways_outside
decreases-ways_outside l = l.here
