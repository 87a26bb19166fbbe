use Rattle.nx_scan_cases.proofs.tokens.cuts_texts_with_long_tokens.Given as goal

abbrev pub ghosts-is_cut : goal.ghosts-is_cut
ghosts-is_cut g a = record { name = a.blank.name; parts = a.blank.parts }
