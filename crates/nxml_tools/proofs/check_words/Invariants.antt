use Rattle.nxml_tools.proofs.check_words.Given as goal

abbrev pub ghosts-check_here : goal.ghosts-check_here
ghosts-check_here a = record { name = a.blank.name; parts = a.blank.parts }
