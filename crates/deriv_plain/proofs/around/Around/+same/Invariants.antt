-- what is left of the two decides, and is no deeper
use Rattle.std.proofs.Common.{◌≡◌, ◌≤◌}
use Rattle.rng_kept.specs.Merging.{same_outer}
use Rattle.deriv_plain.specs.Ways.{outer_of}
use Rattle.deriv_plain.specs.declared.around.Around.{size-Around}
use Rattle.deriv_plain.proofs.around.Around.+same.Given as goal

abbrev pub invariant-loop-left : goal.invariant-loop-left
invariant-loop-left l = record {
  same : same_outer (outer_of l.left) (outer_of l.right) ≡ same_outer (outer_of l.self) (outer_of l.other);
  depth : size-Around l.left ≤ size-Around l.self;
}
