use Rattle.nx_examples.proofs.judge_schema.Given as goal

abbrev pub ghosts-judge_pair : goal.ghosts-judge_pair
ghosts-judge_pair a = record { name = a.blank.name; parts = a.blank.parts }
