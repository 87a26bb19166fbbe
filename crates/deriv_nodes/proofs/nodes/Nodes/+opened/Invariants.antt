use Rattle.deriv_nodes.proofs.nodes.Nodes.+opened.Given as goal

abbrev pub decreases-opened : goal.decreases-opened
decreases-opened l = l.p
