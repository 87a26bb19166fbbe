-- the names so far with those that are left are all, and what is left is no deeper
use Rattle.std.proofs.Common.{◌≡◌, ◌≤◌, ◌++◌}
use Rattle.rng_core.specs.declared.name_class.NameClass.{size-NameClass}
use Rattle.rng_core.specs.Meaning.{class_of}
use Rattle.rng_kept.specs.Needed.{class_names}
use Rattle.deriv_pattern.proofs.required.+add_mentioned.Given as goal

abbrev pub invariant-loop-left : goal.invariant-loop-left
invariant-loop-left l = record {
  names : l.names ++ class_names (class_of l.left) ≡ l.fn.names ++ class_names (class_of l.class);
  depth : size-NameClass l.left ≤ size-NameClass l.class;
}
