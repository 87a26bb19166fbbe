use Rattle.deriv_nodes.proofs.nodes.Nodes.+has_words.Given as goal

abbrev pub decreases-has_words : goal.decreases-has_words
decreases-has_words l = l.p
