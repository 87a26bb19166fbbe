-- what is left of the class decides, and it is no deeper
use Rattle.std.proofs.Common.{◌≡◌, ◌≤◌}
use Rattle.rng_core.specs.declared.name_class.NameClass.{size-NameClass}
use Rattle.rng_core.specs.Meaning.{class_of}
use Rattle.rng_simplify.specs.Classes.{names_xmlns}
use Rattle.rng_simplify.proofs.class.+names_xmlns.Given as goal

abbrev pub invariant-loop-rest : goal.invariant-loop-rest
invariant-loop-rest l = (names_xmlns (class_of l.rest) ≡ names_xmlns (class_of l.class)) × (size-NameClass l.rest ≤ size-NameClass l.class)
