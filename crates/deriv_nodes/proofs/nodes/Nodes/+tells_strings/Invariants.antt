use Rattle.deriv_nodes.proofs.nodes.Nodes.+tells_strings.Given as goal

abbrev pub decreases-tells_strings : goal.decreases-tells_strings
decreases-tells_strings l = l.p
