use Rattle.deriv_nodes.proofs.nodes.Nodes.+drop_attributes.Given as goal

abbrev pub decreases-drop_attributes : goal.decreases-drop_attributes
decreases-drop_attributes l = l.p
