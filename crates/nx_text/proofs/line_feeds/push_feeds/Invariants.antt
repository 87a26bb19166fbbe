use Rattle.std.proofs.Common.{◌≡◌, ◌+◌, ◌-◌, ◌≤◌, ◌++◌, length}
use Rattle.nx_text.specs.Feeds.{feeds_from}
use Rattle.nx_text.proofs.Feeds.{feed_count}
use Rattle.nx_text.proofs.line_feeds.push_feeds.Given as goal

abbrev pub invariant-loop-before : goal.invariant-loop-before
invariant-loop-before l =
    (l.feeds.front ++ feeds_from (l.at + (length l.added - length l.left)) l.left ≡ l.fn.feeds.front ++ feeds_from l.at l.added)
    × (l.feeds.back ≡ l.fn.feeds.back) × (feed_count l.left ≤ l.feeds.room) × (length l.left ≤ length l.added)
    × (l.fn.feeds.room + feed_count l.left ≤ l.feeds.room + feed_count l.added)

abbrev pub decreases-loop-before : goal.decreases-loop-before
decreases-loop-before l = length l.left
