use Rattle.deriv_states.proofs.states.States.+either_outer.Given as goal

abbrev pub decreases-either_outer : goal.decreases-either_outer
decreases-either_outer l = l.u
