use Rattle.deriv_cases.proofs.matchers.matcher_of.Given as goal

abbrev pub ghosts-matcher_by : goal.ghosts-matcher_by
ghosts-matcher_by g a = record { name = a.blank.name; parts = a.blank.parts }
