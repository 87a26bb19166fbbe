use Rattle.std.proofs.Common.{◌≡◌, ◌+◌, length}
use Rattle.std.specs.Prelude.{count_by}
use Rattle.nx_text.specs.Changing.{texts_of}
use Rattle.nx_text.specs.Places.{is_line_feed}
use Rattle.nx_text.proofs.change.put_in.Given as goal

abbrev pub invariant-loop-change : goal.invariant-loop-change
invariant-loop-change l =
    (l.bytes + length (texts_of l.left) ≡ length (texts_of l.changes))
    × (l.feeds + count_by is_line_feed (texts_of l.left) ≡ count_by is_line_feed (texts_of l.changes))

abbrev pub decreases-loop-change : goal.decreases-loop-change
decreases-loop-change l = length l.left
