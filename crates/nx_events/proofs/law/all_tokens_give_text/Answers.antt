use Rattle.nx_events.proofs.TextItems.{all_text}
use Rattle.nx_events.proofs.law.all_tokens_give_text.Goals as goal

pub returns : goal.returns
returns c all len each = all_text all len each
