use Rattle.std.proofs.Common.{◌≡◌, ◌+◌, ◌≤◌, length}
use Rattle.nx_text.proofs.Feeds.{feed_count}
use Rattle.nx_text.proofs.line_feeds.count_feeds.Given as goal

abbrev pub invariant-loop-left : goal.invariant-loop-left
invariant-loop-left l = (l.count + feed_count l.left ≡ feed_count l.text) × (l.count + length l.left ≤ length l.text)

abbrev pub decreases-loop-left : goal.decreases-loop-left
decreases-loop-left l = length l.left
