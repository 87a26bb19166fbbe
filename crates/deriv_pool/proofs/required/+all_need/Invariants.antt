use Rattle.deriv_pool.proofs.required.+all_need.Given as goal

abbrev pub decreases-all_need : goal.decreases-all_need
decreases-all_need l = l.state
