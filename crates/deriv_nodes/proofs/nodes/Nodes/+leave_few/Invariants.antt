use Rattle.deriv_nodes.proofs.nodes.Nodes.+leave_few.Given as goal

abbrev pub decreases-leave_few : goal.decreases-leave_few
decreases-leave_few l = l.p
