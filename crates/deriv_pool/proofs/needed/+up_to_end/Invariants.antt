use Rattle.deriv_pool.proofs.needed.+up_to_end.Given as goal

abbrev pub decreases-up_to_end : goal.decreases-up_to_end
decreases-up_to_end l = l.here
