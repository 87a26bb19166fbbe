-- what is left of the two decides, and it is no deeper
use Rattle.std.proofs.Common.{◌≡◌, ◌≤◌}
use Rattle.rng_core.specs.declared.name_class.NameClass.{size-NameClass}
use Rattle.rng_core.specs.Meaning.{class_of}
use Rattle.rng_core.specs.Equality.{same_class}
use Rattle.rng_core.proofs.equality.+alike_classes.Given as goal

abbrev pub invariant-loop-left : goal.invariant-loop-left
invariant-loop-left l = (same_class (class_of l.left) (class_of l.right) ≡ same_class (class_of l.a) (class_of l.b)) × (size-NameClass l.left ≤ size-NameClass l.a)
