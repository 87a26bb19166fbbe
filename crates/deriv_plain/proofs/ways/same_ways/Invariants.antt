-- what is left of the two decides
use Rattle.std.proofs.Common.{◌≡◌, length}
use Rattle.deriv_plain.specs.Sameness.{same_residual}
use Rattle.deriv_plain.specs.Ways.{residual_of}
use Rattle.deriv_plain.proofs.ways.same_ways.Given as goal

abbrev pub invariant-loop-way : goal.invariant-loop-way
invariant-loop-way l = same_residual (residual_of l.left) (residual_of l.right) ≡ same_residual (residual_of l.a) (residual_of l.b)

abbrev pub decreases-loop-way : goal.decreases-loop-way
decreases-loop-way l = length l.left
