-- what is found so far, and what the tokens that are left give, is the whole
use Rattle.std.proofs.Common.{◌≡◌, ◌++◌, length}
use Rattle.rng_widen.specs.CompactWidenings.{widenings_from, widenings_of}
use Rattle.rng_widen.proofs.compact.widenings_of.Given as goal

abbrev pub invariant-tokens : goal.invariant-tokens
invariant-tokens l = l.all.items ++ widenings_from l.file l.end l.context l.rest ≡ widenings_of l.end l.file

abbrev pub decreases-tokens : goal.decreases-tokens
decreases-tokens l = length l.rest
