use Rattle.nx_complete_cases.proofs.schema.matcher_of.Given as goal

abbrev pub ghosts-matcher_by : goal.ghosts-matcher_by
ghosts-matcher_by a = record { name = a.blank.name; parts = a.blank.parts }
