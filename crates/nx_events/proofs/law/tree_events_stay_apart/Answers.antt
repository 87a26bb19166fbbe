use Rattle.nx_events.proofs.TreeEvents.{stay_apart}
use Rattle.nx_events.proofs.law.tree_events_stay_apart.Goals as goal

pub returns : goal.returns
returns c = stay_apart
