use Rattle.nx_events.proofs.TextItems.{end_text}
use Rattle.nx_events.proofs.law.ends_give_text.Goals as goal

pub returns : goal.returns
returns c state len text = end_text state len text
