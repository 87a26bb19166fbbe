use Rattle.nx_events.proofs.StatesKnown.{states_are_known}
use Rattle.nx_events.proofs.law.states_are_known.Goals as goal

pub returns : goal.returns
returns c = states_are_known
