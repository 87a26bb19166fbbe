use Rattle.nx_events.proofs.Prefixes.{prefixes_are_told}
use Rattle.nx_events.proofs.law.prefixes_are_told.Goals as goal

pub returns : goal.returns
returns c = prefixes_are_told
