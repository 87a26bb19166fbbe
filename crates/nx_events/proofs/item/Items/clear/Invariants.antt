use Rattle.std.proofs.Common.{length}
use Rattle.nx_events.proofs.item.Items.clear.Given as goal

abbrev pub decreases-loop-item : goal.decreases-loop-item
decreases-loop-item l = length l.self
