use Rattle.deriv_pattern.proofs.parts.first_of_many.Goals as goal

pub returns : goal.returns
returns c x h = c.in_order.ensures _ _ (rw c.in_ok-left.was at h) c.starred.ensures
