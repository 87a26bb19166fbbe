use Rattle.rng_simplify.proofs.types.+list_values.Given as goal

abbrev pub decreases-list_values : goal.decreases-list_values
decreases-list_values l = l.number
