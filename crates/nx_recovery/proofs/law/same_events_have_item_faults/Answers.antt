use Rattle.nx_recovery.proofs.ItemFaults.{same_events_have_item_faults}
use Rattle.nx_recovery.proofs.law.same_events_have_item_faults.Goals as goal

pub returns : goal.returns
returns c = same_events_have_item_faults
