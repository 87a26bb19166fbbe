use Rattle.deriv_states.proofs.states.States.+is_outer_in.Given as goal

abbrev pub decreases-is_outer_in : goal.decreases-is_outer_in
decreases-is_outer_in l = l.o
