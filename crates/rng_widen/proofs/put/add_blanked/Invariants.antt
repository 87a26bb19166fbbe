use Rattle.std.proofs.Common.{◌≡◌, ◌++◌, map, take}
use Rattle.rng_widen.specs.Widened.{blanked}
use Rattle.rng_widen.proofs.put.add_blanked.Given as goal

abbrev pub invariant-loop-byte : goal.invariant-loop-byte
invariant-loop-byte l = l.out.items ≡ l.initial.out.items ++ map blanked (take l.byte-index l.bytes)
