use Rattle.deriv_states.proofs.states.States.+with_way.Given as goal

abbrev pub decreases-with_way : goal.decreases-with_way
decreases-with_way l = l.ways
