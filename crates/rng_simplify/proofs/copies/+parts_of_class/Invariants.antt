-- what is left of the class is no deeper
use Rattle.std.proofs.Common.{◌≤◌}
use Rattle.rng_core.specs.declared.name_class.NameClass.{size-NameClass}
use Rattle.rng_simplify.proofs.copies.+parts_of_class.Given as goal

abbrev pub invariant-loop-rest : goal.invariant-loop-rest
invariant-loop-rest l = size-NameClass l.rest ≤ size-NameClass l.class
