use Rattle.nx_events.proofs.TextItems.{finished_text}
use Rattle.nx_events.proofs.reader.finish.Goals as goal

pub returns-clause-text : goal.returns-clause-text
returns-clause-text c state = finished_text c.args.state.now c.args.len _ c.in_ok-items.ensures state
