use Rattle.nx_events.proofs.TextItems.{more_text}
use Rattle.nx_events.proofs.reader.read.Goals as goal

pub returns-clause-text : goal.returns-clause-text
returns-clause-text c token state before = more_text c.args.state.now c.args.token.now c.args.items.now _ c.in_ok-declared.ensures.items token state before
