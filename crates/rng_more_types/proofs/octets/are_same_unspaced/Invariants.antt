use Rattle.std.proofs.Common.{◌≡◌, length}
use Rattle.std.specs.Str.{bytes_eq}
use Rattle.rng_more_types.specs.Spaces.{unspaced}
use Rattle.rng_more_types.proofs.octets.are_same_unspaced.Given as goal

abbrev pub invariant-loop-first : goal.invariant-loop-first
invariant-loop-first l = bytes_eq (unspaced l.left) (unspaced l.right) ≡ bytes_eq (unspaced l.a) (unspaced l.b)

abbrev pub decreases-loop-first : goal.decreases-loop-first
decreases-loop-first l = length l.left
