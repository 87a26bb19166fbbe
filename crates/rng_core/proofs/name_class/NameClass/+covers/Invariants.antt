-- what is left of the class decides, and it is no deeper
use Rattle.std.proofs.Common.{◌≡◌, ◌≤◌}
use Rattle.rng_core.specs.declared.name_class.NameClass.{size-NameClass}
use Rattle.rng_core.specs.Meaning.{class_of}
use Rattle.rng_core.specs.Names.{covers}
use Rattle.rng_core.proofs.name_class.NameClass.+covers.Given as goal

abbrev pub invariant-loop-class : goal.invariant-loop-class
invariant-loop-class l = (covers (class_of l.class) l.name ≡ covers (class_of l.self) l.name) × (size-NameClass l.class ≤ size-NameClass l.self)
