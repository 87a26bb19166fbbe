use Rattle.deriv_pool.proofs.needed.+skip_names.Given as goal

abbrev pub decreases-skip_names : goal.decreases-skip_names
decreases-skip_names l = l.state
