use Rattle.deriv_nodes.proofs.nodes.Nodes.+ending.Given as goal

abbrev pub decreases-ending : goal.decreases-ending
decreases-ending l = l.p
