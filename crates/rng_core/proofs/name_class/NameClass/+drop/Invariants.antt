-- what is left of the class is no deeper
use Rattle.std.proofs.Common.{◌≤◌}
use Rattle.rng_core.specs.declared.name_class.NameClass.{size-NameClass}
use Rattle.rng_core.proofs.name_class.NameClass.+drop.Given as goal

abbrev pub invariant-loop-self : goal.invariant-loop-self
invariant-loop-self l = size-NameClass l.self ≤ size-NameClass l.initial.self
