use Rattle.std.proofs.Common.{◌≤◌}
use Rattle.nx_events.specs.Runs.{run_back}
use Rattle.nx_events_cases.proofs.reader.read.Given as goal

abbrev pub invariant-loop-part : goal.invariant-loop-part
invariant-loop-part l =
    (goal.iterator-loop-part).can_next l.part-iterator ×
    (goal.iterator-loop-part).is_finite l.part-iterator ×
    (run_back l.state.run ≤ l.at)
