use Rattle.deriv_nodes.proofs.nodes.Nodes.+loosen.Given as goal

abbrev pub decreases-loosen : goal.decreases-loosen
decreases-loosen l = l.p
