use Rattle.nx_events.proofs.OpenItems.{start_tags_go_on}
use Rattle.nx_events.proofs.law.start_tags_go_on.Goals as goal

pub returns : goal.returns
returns c = start_tags_go_on
