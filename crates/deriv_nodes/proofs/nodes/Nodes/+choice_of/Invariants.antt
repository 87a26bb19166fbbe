use Rattle.deriv_nodes.proofs.nodes.Nodes.+choice_of.Given as goal

abbrev pub decreases-choice_of : goal.decreases-choice_of
decreases-choice_of l = l.q
