use Rattle.deriv_nodes.proofs.nodes.Nodes.+child_names.Given as goal

abbrev pub decreases-child_names : goal.decreases-child_names
decreases-child_names l = l.p
