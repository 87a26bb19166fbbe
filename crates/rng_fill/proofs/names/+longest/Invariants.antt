-- the longest so far and what is left are the longest of all; and what is left is no deeper
use Rattle.std.proofs.Common.{◌≡◌, ◌≤◌}
use Rattle.std.specs.Prelude.{max}
use Rattle.rng_core.specs.declared.name_class.NameClass.{size-NameClass}
use Rattle.rng_core.specs.Meaning.{class_of}
use Rattle.rng_fill.specs.ClassNames.{longest}
use Rattle.rng_fill.proofs.names.+longest.Given as goal

abbrev pub invariant-loop-left : goal.invariant-loop-left
invariant-loop-left l = record {
  all : max l.most (longest (class_of l.left)) ≡ longest (class_of l.class);
  size : size-NameClass l.left ≤ size-NameClass l.class;
}
