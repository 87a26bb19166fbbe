use Rattle.nx_tags_cases.proofs.cases.commands_make_what_the_table_says.Given as goal

abbrev pub ghosts-all_made : goal.ghosts-all_made
ghosts-all_made g a = record { name = a.blank.name; parts = a.blank.parts }
