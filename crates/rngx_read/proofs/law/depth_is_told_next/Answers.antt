use Rattle.rngx_read.proofs.Order.{depth_next}
use Rattle.rngx_read.proofs.law.depth_is_told_next.Goals as goal

pub returns : goal.returns
returns c = depth_next
