-- the ways that are left decide
use Rattle.std.proofs.Common.{◌≡◌, length}
use Rattle.rng_kept.specs.Required.{is_required}
use Rattle.deriv_plain.specs.Ways.{residual_of}
use Rattle.deriv_plain.proofs.required.all_need.Given as goal

abbrev pub invariant-loop-way : goal.invariant-loop-way
invariant-loop-way l = is_required l.name (residual_of l.left) ≡ is_required l.name (residual_of l.ways)

abbrev pub decreases-loop-way : goal.decreases-loop-way
decreases-loop-way l = length l.left
