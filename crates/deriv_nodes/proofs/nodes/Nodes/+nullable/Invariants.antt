use Rattle.deriv_nodes.proofs.nodes.Nodes.+nullable.Given as goal

abbrev pub decreases-nullable : goal.decreases-nullable
decreases-nullable l = l.p
