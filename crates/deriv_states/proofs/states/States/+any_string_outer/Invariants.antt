use Rattle.deriv_states.proofs.states.States.+any_string_outer.Given as goal

abbrev pub decreases-any_string_outer : goal.decreases-any_string_outer
decreases-any_string_outer l = l.here
