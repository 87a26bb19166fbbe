use Rattle.std.proofs.Common.{◌≡◌, ◌≤◌, ◌-◌, length, None, replicate}
use Rattle.rng_live.proofs.waiting.no_lists.Given as goal

abbrev pub invariant-loop-lists : goal.invariant-loop-lists
invariant-loop-lists l = record {
  none : l.lists.items ≡ replicate (length l.lists.items) None;
  within : length l.lists.items ≤ l.count;
}

abbrev pub decreases-loop-lists : goal.decreases-loop-lists
decreases-loop-lists l = l.count - length l.lists.items
