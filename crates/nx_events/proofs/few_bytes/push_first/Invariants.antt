use Rattle.std.proofs.Common.{◌-◌, ◌≡◌, ◌+◌, ◌≤◌, ◌++◌, take, vec_len, vec_capacity}
use Rattle.nx_events.proofs.few_bytes.push_first.Given as goal

abbrev pub invariant-loop-pushed : goal.invariant-loop-pushed
invariant-loop-pushed g l =
    (l.list.items ≡ l.fn.list.items ++ take l.pushed l.lanes) × (vec_len l.list ≡ vec_len l.fn.list + l.pushed)
    × (vec_capacity l.list ≡ vec_capacity l.fn.list) × (l.pushed ≤ g.row.N)

abbrev pub decreases-loop-pushed : goal.decreases-loop-pushed
decreases-loop-pushed g l = g.row.N - l.pushed
