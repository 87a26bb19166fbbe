use Rattle.nx_tags_cases.proofs.checks.commands_keep_what_they_promise.Given as goal

abbrev pub ghosts-all_hold : goal.ghosts-all_hold
ghosts-all_hold g a = record { name = a.blank.name; parts = a.blank.parts }
