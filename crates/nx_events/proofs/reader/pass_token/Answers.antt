use Rattle.nx_events.proofs.TextItems.{next_text}
use Rattle.nx_events.proofs.reader.pass_token.Goals as goal

pub returns-clause-text : goal.returns-clause-text
returns-clause-text c token state = next_text c.args.state.now _ c.args.token.now c.in_ok-pass_by_kind.ensures.state token state
