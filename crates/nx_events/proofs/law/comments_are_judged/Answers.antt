use Rattle.nx_events.proofs.MarkupForms.{comments_are_judged}
use Rattle.nx_events.proofs.law.comments_are_judged.Goals as goal

pub returns : goal.returns
returns c = comments_are_judged
