use Rattle.deriv_nodes.proofs.nodes.Nodes.+needs.Given as goal

abbrev pub decreases-needs : goal.decreases-needs
decreases-needs l = l.p
