use Rattle.deriv_nodes.proofs.nodes.Nodes.+skip_opens.Given as goal

abbrev pub decreases-skip_opens : goal.decreases-skip_opens
decreases-skip_opens l = l.p
