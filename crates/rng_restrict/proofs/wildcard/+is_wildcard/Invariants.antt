-- what is left of the class decides, and it is no deeper
use Rattle.std.proofs.Common.{◌≡◌, ◌≤◌}
use Rattle.rng_core.specs.declared.name_class.NameClass.{size-NameClass}
use Rattle.rng_core.specs.Meaning.{class_of}
use Rattle.rng_restrict.specs.Finding.{is_wildcard}
use Rattle.rng_restrict.proofs.wildcard.+is_wildcard.Given as goal

abbrev pub invariant-loop-left : goal.invariant-loop-left
invariant-loop-left l = (is_wildcard (class_of l.left) ≡ is_wildcard (class_of l.class)) × (size-NameClass l.left ≤ size-NameClass l.class)
