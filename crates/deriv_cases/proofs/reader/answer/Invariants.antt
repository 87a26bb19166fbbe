use Rattle.deriv_cases.proofs.reader.answer.Given as goal

abbrev pub invariant-loop-event : goal.invariant-loop-event
invariant-loop-event g l =
    (goal.iterator-loop-event g).can_next l.event-iterator ×
    (goal.iterator-loop-event g).is_finite l.event-iterator ×
    g.M.Matcher.is_state l.matcher l.state
