use Rattle.nx_events.proofs.TextItems.{first_text}
use Rattle.nx_events.proofs.law.first_state_is_text.Goals as goal

pub returns : goal.returns
returns c = first_text
