use Rattle.nx_session_cases.proofs.tests.sessions_keep_a_text_and_a_caret.Given as goal

abbrev pub ghosts-plays : goal.ghosts-plays
ghosts-plays g a = record { name = a.blank.name; parts = a.blank.parts }
