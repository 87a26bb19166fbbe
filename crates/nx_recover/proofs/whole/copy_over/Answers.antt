use Rattle.nx_recover.proofs.Stepping.{over_is}
use Rattle.nx_recover.proofs.whole.copy_over.Goals as goal

pub returns-clause-meaning : goal.returns-clause-meaning
returns-clause-meaning g c = over_is (g.M.Matcher.means c.args.matcher.now) (record { events = c.in_ok-events.events; levels = record { here = c.in_ok-here.here; elements = c.in_ok-elements.elements } }) c.args.state.now c.in_ok-events.ensures c.in_ok-here.ensures.meaning (rw c.as_slice.ensures.value at c.in_ok-elements.ensures.meaning)
