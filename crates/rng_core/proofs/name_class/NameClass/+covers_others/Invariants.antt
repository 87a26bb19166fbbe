-- what is left of the class decides, and it is no deeper
use Rattle.std.proofs.Common.{◌≡◌, ◌≤◌}
use Rattle.rng_core.specs.declared.name_class.NameClass.{size-NameClass}
use Rattle.rng_core.specs.Meaning.{class_of}
use Rattle.rng_core.specs.Unmentioned.{covers_others}
use Rattle.rng_core.proofs.name_class.NameClass.+covers_others.Given as goal

abbrev pub invariant-loop-class : goal.invariant-loop-class
invariant-loop-class l = (covers_others (class_of l.class) ≡ covers_others (class_of l.self)) × (size-NameClass l.class ≤ size-NameClass l.self)
