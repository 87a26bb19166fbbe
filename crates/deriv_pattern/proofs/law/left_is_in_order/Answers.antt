use Rattle.deriv_pattern.proofs.InOrder.{left_in_order}
use Rattle.deriv_pattern.proofs.law.left_is_in_order.Goals as goal

pub returns : goal.returns
returns c = left_in_order
