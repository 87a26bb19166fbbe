use Rattle.rnc_cases.proofs.grammars.simplified.Given as goal

abbrev pub ghosts-simplified_by : goal.ghosts-simplified_by
ghosts-simplified_by g a = record { name = a.blank.name; parts = a.blank.parts }
