use Rattle.rng_fill_cases.proofs.judging.is_taken.Given as goal

abbrev pub invariant-loop-one : goal.invariant-loop-one
invariant-loop-one g l = g.M.Matcher.is_state l.matcher l.state
