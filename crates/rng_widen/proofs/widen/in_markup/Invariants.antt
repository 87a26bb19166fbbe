use Rattle.rng_widen.proofs.widen.in_markup.Given as goal

abbrev pub ghosts-in_cut : goal.ghosts-in_cut
ghosts-in_cut a = record { name = a.blank.name; parts = a.blank.parts }
