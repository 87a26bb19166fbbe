use Rattle.nx_tags.proofs.Renaming.{renaming_keeps_events}
use Rattle.nx_tags.proofs.law.renaming_keeps_events.Goals as goal

pub returns : goal.returns
returns c text name at changes renamed expanded was is = renaming_keeps_events text name at changes renamed expanded was is
