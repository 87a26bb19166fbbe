use Rattle.deriv_pool.proofs.required.+possible_names.Given as goal

abbrev pub decreases-possible_names : goal.decreases-possible_names
decreases-possible_names l = l.state
