use Rattle.std.proofs.Common.{◌≡◌, ◌-◌, ◌≤◌, length}
use Rattle.nx_text.specs.Feeds.{IsIndex, joined}
use Rattle.nx_text.proofs.line_feeds.raise_gap.Given as goal

abbrev pub invariant-loop-moved : goal.invariant-loop-moved
invariant-loop-moved l =
    IsIndex (joined l.bytes) l.moved × (l.moved.room ≡ l.fn.feeds.room) × (length l.moved.front ≤ l.count)

abbrev pub decreases-loop-moved : goal.decreases-loop-moved
decreases-loop-moved l = l.count - length l.moved.front
