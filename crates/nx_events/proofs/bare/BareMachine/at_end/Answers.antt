use Rattle.nx_events.specs.BareLaws.{ends_placed}
use Rattle.nx_events.proofs.bare.BareMachine.at_end.Goals as goal

pub returns-clause-faults : goal.returns-clause-faults
returns-clause-faults c =
    rw (← ends_placed c.args.state.now c.args.len c.requires.place, ← c.in_ok-items.ensures.items) (rw c.as_slice.ensures at c.in_ok-push_faults.ensures.ok)
