use Rattle.std.proofs.Common.{◌≡◌, ℕ, ◌<◌, length, get_or}
use Rattle.rng_types.specs.Spaces.{replaced_char}
use Rattle.rng_types.proofs.sameness.same_each.Given as goal

abbrev pub invariant-loop-x : goal.invariant-loop-x
invariant-loop-x l = (k : ℕ) → k < length l.yielded → replaced_char (get_or l.a k 0) ≡ replaced_char (get_or l.b k 0)
