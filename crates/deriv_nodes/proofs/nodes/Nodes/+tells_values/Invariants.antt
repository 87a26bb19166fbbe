use Rattle.deriv_nodes.proofs.nodes.Nodes.+tells_values.Given as goal

abbrev pub decreases-tells_values : goal.decreases-tells_values
decreases-tells_values l = l.p
