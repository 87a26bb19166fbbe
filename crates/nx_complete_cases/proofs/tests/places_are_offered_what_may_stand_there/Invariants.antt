use Rattle.nx_complete_cases.proofs.tests.places_are_offered_what_may_stand_there.Given as goal

abbrev pub ghosts-compare : goal.ghosts-compare
ghosts-compare g a = record { name = a.blank.name; parts = a.blank.parts }
