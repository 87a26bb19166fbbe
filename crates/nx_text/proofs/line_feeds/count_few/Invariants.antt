use Rattle.std.proofs.Common.{◌≡◌, ◌+◌, ◌≤◌, drop}
use Rattle.nx_text.proofs.Feeds.{feed_count}
use Rattle.nx_text.proofs.line_feeds.count_few.Given as goal

abbrev pub invariant-loop-i : goal.invariant-loop-i
invariant-loop-i l = (l.count + feed_count (drop l.i l.bytes) ≡ feed_count l.bytes) × (l.count ≤ l.i)
