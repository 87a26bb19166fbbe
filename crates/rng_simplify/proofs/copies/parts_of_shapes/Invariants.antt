-- the parts of the shapes so far
use Rattle.std.proofs.Common.{◌≡◌, length}
use Rattle.rng_simplify.proofs.copies.parts_of_shapes.Given as goal

abbrev pub invariant-loop-number : goal.invariant-loop-number
invariant-loop-number l = length l.parts.items ≡ l.number
