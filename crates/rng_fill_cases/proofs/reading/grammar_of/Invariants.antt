use Rattle.rng_fill_cases.proofs.reading.grammar_of.Given as goal

abbrev pub ghosts-grammar_by : goal.ghosts-grammar_by
ghosts-grammar_by a = record { name = a.blank.name; parts = a.blank.parts }
