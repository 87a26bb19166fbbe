use Rattle.deriv_nodes.proofs.nodes.Nodes.+is_side.Given as goal

abbrev pub decreases-is_side : goal.decreases-is_side
decreases-is_side l = l.p
