use Rattle.nx_events.proofs.Spelling.{tags_are_read}
use Rattle.nx_events.proofs.law.tags_are_read.Goals as goal

pub returns : goal.returns
returns c = tags_are_read
