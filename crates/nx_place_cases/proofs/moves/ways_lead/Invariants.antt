use Rattle.nx_place_cases.proofs.moves.ways_lead.Given as goal

abbrev pub ghosts-all_lead : goal.ghosts-all_lead
ghosts-all_lead g a = record { name = a.blank.name; parts = a.blank.parts }
