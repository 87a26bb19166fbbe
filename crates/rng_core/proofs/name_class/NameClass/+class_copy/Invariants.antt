-- the choice of what is left and of what was copied is the class, and what is left is no deeper
use Rattle.std.proofs.Common.{◌≡◌, ◌≤◌, map}
use Rattle.rng_core.specs.declared.name_class.NameClass.{size-NameClass}
use Rattle.rng_core.specs.Meaning.{class_of}
use Rattle.rng_core.specs.Spine.{choices}
use Rattle.rng_core.proofs.name_class.NameClass.+class_copy.Given as goal

abbrev pub invariant-copy-loop-front : goal.invariant-copy-loop-front
invariant-copy-loop-front l = (choices (class_of l.front) (map class_of l.lasts.items) ≡ class_of l.self) × (size-NameClass l.front ≤ size-NameClass l.self)
