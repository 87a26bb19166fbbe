use Rattle.std.proofs.Common.{◌≡◌, take}
use Rattle.rng_more_types.specs.Spaces.{unspaced}
use Rattle.rng_types.proofs.one_token.without_space.Given as goal

abbrev pub invariant-loop-byte : goal.invariant-loop-byte
invariant-loop-byte l = l.kept ≡ unspaced (take l.byte-index l.bytes)
