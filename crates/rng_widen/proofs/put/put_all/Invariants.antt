-- what is put so far, and what is left of the text with the words that are left, is the whole
use Rattle.std.proofs.Common.{◌≡◌, ◌++◌, length}
use Rattle.rng_widen.specs.Widened.{put_from, put_all}
use Rattle.rng_widen.proofs.put.put_all.Given as goal

abbrev pub invariant-widenings : goal.invariant-widenings
invariant-widenings l = l.out.items ++ put_from l.len l.rest l.left ≡ put_all l.text l.widenings

abbrev pub decreases-widenings : goal.decreases-widenings
decreases-widenings l = length l.left
