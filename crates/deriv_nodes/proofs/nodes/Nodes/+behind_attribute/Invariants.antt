use Rattle.deriv_nodes.proofs.nodes.Nodes.+behind_attribute.Given as goal

abbrev pub decreases-behind_attribute : goal.decreases-behind_attribute
decreases-behind_attribute l = l.p
