use Rattle.std.proofs.Common.{◌≡◌, ◌≤◌, ◌++◌, ◌-◌, length, replicate}
use Rattle.rng_types.proofs.successor.without_last.Given as goal

abbrev pub invariant-loop-last : goal.invariant-loop-last
invariant-loop-last l = record { cut : l.digits ≡ l.left ++ replicate (length l.digits - length l.left) l.gone; within : length l.left ≤ length l.digits }

abbrev pub decreases-loop-last : goal.decreases-loop-last
decreases-loop-last l = length l.left
