use Rattle.deriv_nodes.proofs.nodes.Nodes.+behind_string.Given as goal

abbrev pub decreases-behind_string : goal.decreases-behind_string
decreases-behind_string l = l.p
