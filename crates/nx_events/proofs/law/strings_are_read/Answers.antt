use Rattle.nx_events.proofs.ToldOnce.{strings_are_read}
use Rattle.nx_events.proofs.law.strings_are_read.Goals as goal

pub returns : goal.returns
returns c = strings_are_read
