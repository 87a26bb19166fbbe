use Rattle.std.proofs.Common.{◌≡◌, ◌≤◌, ◌-◌, length, None, replicate}
use Rattle.rng_fill.proofs.heads.none_known.Given as goal

abbrev pub invariant-loop-items : goal.invariant-loop-items
invariant-loop-items l = record {
  none : l.items.items ≡ replicate (length l.items.items) None;
  within : length l.items.items ≤ l.count;
}

abbrev pub decreases-loop-items : goal.decreases-loop-items
decreases-loop-items l = l.count - length l.items.items
