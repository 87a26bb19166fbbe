-- the copies, and the ways that are left
use Rattle.std.proofs.Common.{◌≡◌, ◌++◌, length}
use Rattle.deriv_plain.specs.Ways.{residual_of}
use Rattle.deriv_plain.proofs.ways.copied_ways.Given as goal

abbrev pub invariant-loop-way : goal.invariant-loop-way
invariant-loop-way l = residual_of l.copied.items ++ residual_of l.left ≡ residual_of l.ways

abbrev pub decreases-loop-way : goal.decreases-loop-way
decreases-loop-way l = length l.left
