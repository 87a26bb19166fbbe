use Rattle.deriv_states.proofs.states.States.+skipped.Given as goal

abbrev pub decreases-skipped : goal.decreases-skipped
decreases-skipped l = l.here
