use Rattle.deriv_states.proofs.states.States.+ways_further_out.Given as goal

abbrev pub decreases-ways_further_out : goal.decreases-ways_further_out
decreases-ways_further_out l = l.here
