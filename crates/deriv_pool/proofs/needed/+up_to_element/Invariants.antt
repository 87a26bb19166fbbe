use Rattle.deriv_pool.proofs.needed.+up_to_element.Given as goal

abbrev pub decreases-up_to_element : goal.decreases-up_to_element
decreases-up_to_element l = l.here
