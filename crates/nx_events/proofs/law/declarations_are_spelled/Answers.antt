use Rattle.nx_events.proofs.DeclarationPasses.{declarations_are_spelled}
use Rattle.nx_events.proofs.law.declarations_are_spelled.Goals as goal

pub returns : goal.returns
returns c = declarations_are_spelled
