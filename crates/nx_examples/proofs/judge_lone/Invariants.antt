use Rattle.nx_examples.proofs.judge_lone.Given as goal

abbrev pub ghosts-judge_file : goal.ghosts-judge_file
ghosts-judge_file a = record { name = a.blank.name; parts = a.blank.parts }
