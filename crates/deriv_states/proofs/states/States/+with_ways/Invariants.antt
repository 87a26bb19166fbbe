use Rattle.deriv_states.proofs.states.States.+with_ways.Given as goal

abbrev pub decreases-with_ways : goal.decreases-with_ways
decreases-with_ways l = l.others
