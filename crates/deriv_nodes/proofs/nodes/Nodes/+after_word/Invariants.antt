use Rattle.deriv_nodes.proofs.nodes.Nodes.+after_word.Given as goal

abbrev pub decreases-after_word : goal.decreases-after_word
decreases-after_word l = l.p
