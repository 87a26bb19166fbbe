use Rattle.deriv_nodes.proofs.nodes.Nodes.+add_names.Given as goal

abbrev pub decreases-add_names : goal.decreases-add_names
decreases-add_names l = l.p
