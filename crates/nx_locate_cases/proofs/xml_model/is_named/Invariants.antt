use Rattle.nx_locate_cases.proofs.xml_model.is_named.Given as goal

abbrev pub ghosts-named : goal.ghosts-named
ghosts-named a = record { name = a.blank.name; parts = a.blank.parts }
