use Rattle.nx_events.proofs.Balance.{enters_and_leaves_balance}
use Rattle.nx_events.proofs.law.enters_and_leaves_balance.Goals as goal

pub returns : goal.returns
returns c = enters_and_leaves_balance
