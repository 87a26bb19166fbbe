use Rattle.nx_events.proofs.MarkupForms.{instructions_are_judged}
use Rattle.nx_events.proofs.law.instructions_are_judged.Goals as goal

pub returns : goal.returns
returns c = instructions_are_judged
