use Rattle.std.proofs.Common.{◌++◌, ◌-◌, ◌<◌, ◌≤◌, length}
use Rattle.nx_text.proofs.Steps.{NoneBetween}
use Rattle.nx_text.proofs.apart.next_border.Given as goal

abbrev pub invariant-loop-next : goal.invariant-loop-next
invariant-loop-next l =
    (l.at < l.next) × (l.next ≤ length (l.front ++ l.back)) × NoneBetween (l.front ++ l.back) l.at l.next

abbrev pub decreases-loop-next : goal.decreases-loop-next
decreases-loop-next l = length (l.front ++ l.back) - l.next
