use Rattle.nx_events.proofs.QualifiedNames.{qnames_are_spelled}
use Rattle.nx_events.proofs.law.qnames_are_spelled.Goals as goal

pub returns : goal.returns
returns c = qnames_are_spelled
