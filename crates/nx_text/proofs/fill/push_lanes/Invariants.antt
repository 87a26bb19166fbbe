use Rattle.std.proofs.Common.{◌-◌, ◌≡◌, ◌+◌, ◌≤◌, ◌++◌, take, vec_len, vec_capacity}
use Rattle.nx_text.proofs.fill.push_lanes.Given as goal

abbrev pub invariant-loop-pushed : goal.invariant-loop-pushed
invariant-loop-pushed l =
    (l.buffer.items ≡ l.fn.buffer.items ++ take l.pushed l.lanes) × (vec_len l.buffer ≡ vec_len l.fn.buffer + l.pushed)
    × (vec_capacity l.buffer ≡ vec_capacity l.fn.buffer) × (l.pushed ≤ 16)

abbrev pub decreases-loop-pushed : goal.decreases-loop-pushed
decreases-loop-pushed l = 16 - l.pushed
