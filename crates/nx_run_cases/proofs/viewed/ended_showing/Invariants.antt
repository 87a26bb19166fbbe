use Rattle.nx_run_cases.proofs.viewed.ended_showing.Given as goal

abbrev pub ghosts-run_showing : goal.ghosts-run_showing
ghosts-run_showing a = record { name = a.blank.name; parts = a.blank.parts }
