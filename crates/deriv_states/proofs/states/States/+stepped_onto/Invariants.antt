use Rattle.deriv_states.proofs.states.States.+stepped_onto.Given as goal

abbrev pub decreases-stepped_onto : goal.decreases-stepped_onto
decreases-stepped_onto l = l.ways
