-- what is left has the same body
use Rattle.std.proofs.Common.{◌≡◌, length}
use Rattle.rng_widen.specs.CompactHead.{body, body_from}
use Rattle.rng_widen.proofs.head.body.Given as goal

abbrev pub invariant-tokens : goal.invariant-tokens
invariant-tokens l = body_from l.head l.rest ≡ body l.file

abbrev pub decreases-tokens : goal.decreases-tokens
decreases-tokens l = length l.rest
