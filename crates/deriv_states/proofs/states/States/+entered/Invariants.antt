use Rattle.deriv_states.proofs.states.States.+entered.Given as goal

abbrev pub decreases-entered : goal.decreases-entered
decreases-entered l = l.here
