use Rattle.deriv_states.proofs.states.States.+is_dead.Given as goal

abbrev pub decreases-is_dead : goal.decreases-is_dead
decreases-is_dead l = l.here
