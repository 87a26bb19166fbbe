use Rattle.nx_events.proofs.TextItems.{token_text}
use Rattle.nx_events.proofs.law.tokens_give_text.Goals as goal

pub returns : goal.returns
returns c = token_text
