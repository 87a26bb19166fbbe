use Rattle.std.proofs.Common.{ℕ, ◌+◌, ◌-◌, ◌≤◌, length}
use Rattle.nx_scan.specs.Tag.{IsReadTo}
use Rattle.nx_scan.proofs.tag_part.read_on.Given as goal

abbrev pub invariant-loop-n : goal.invariant-loop-n
invariant-loop-n l =
    (l.n ≤ length l.piece) × ((at : ℕ) → IsReadTo l.text at l.fn.place l.fn.seen → IsReadTo l.text at (l.fn.place + l.n) l.so_far)

abbrev pub decreases-loop-n : goal.decreases-loop-n
decreases-loop-n l = length l.piece - l.n
