-- the ways that are left tell as much
use Rattle.std.proofs.Common.{◌≡◌, length}
use Rattle.nx_base.specs.declared.name.Name.{Name}
use Rattle.rng_kept.specs.Residuals.{is_in_tag}
use Rattle.rng_kept.specs.Required.{is_required}
use Rattle.deriv_plain.specs.Ways.{residual_of}
use Rattle.deriv_plain.proofs.required.possible_names.Given as goal

abbrev pub invariant-loop-way : goal.invariant-loop-way
invariant-loop-way l = record {
  tag : is_in_tag (residual_of l.left) ≡ is_in_tag (residual_of l.ways);
  same : (n : Name) → is_required n (residual_of l.left) ≡ is_required n (residual_of l.ways);
}

abbrev pub decreases-loop-way : goal.decreases-loop-way
decreases-loop-way l = length l.left
