use Rattle.deriv_nodes.proofs.nodes.Nodes.+front_names.Given as goal

abbrev pub decreases-front_names : goal.decreases-front_names
decreases-front_names l = l.p
