use Rattle.deriv_nodes.proofs.nodes.Nodes.+close.Given as goal

abbrev pub decreases-close : goal.decreases-close
decreases-close l = l.p
