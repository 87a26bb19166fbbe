-- the ways that are left are still to be stepped
use Rattle.std.proofs.Common.{◌≡◌, [], length}
use Rattle.rng_kept.specs.Merging.{stepped}
use Rattle.deriv_plain.specs.Order.{AreInOrder}
use Rattle.deriv_pattern.specs.Steps.{way_step}
use Rattle.deriv_plain.specs.Ways.{residual_of}
use Rattle.deriv_plain.proofs.step.stepped.Given as goal

abbrev pub invariant-loop-way : goal.invariant-loop-way
invariant-loop-way l = record {
  same : stepped (way_step l.step) (residual_of l.done.items) (residual_of l.left) ≡ stepped (way_step l.step) [] (residual_of l.ways);
  order : AreInOrder (residual_of l.left);
}

abbrev pub decreases-loop-way : goal.decreases-loop-way
decreases-loop-way l = length l.left
