use Rattle.std.proofs.Common.{◌≡◌, length}
use Rattle.rng_more_types.specs.Spaces.{unspaced}
use Rattle.rng_more_types.specs.Octets.{last_from}
use Rattle.rng_more_types.proofs.octets.last_unspaced.Given as goal

abbrev pub invariant-loop-first : goal.invariant-loop-first
invariant-loop-first l = last_from l.last (unspaced l.rest) ≡ last_from 0 (unspaced l.text)

abbrev pub decreases-loop-first : goal.decreases-loop-first
decreases-loop-first l = length l.rest
