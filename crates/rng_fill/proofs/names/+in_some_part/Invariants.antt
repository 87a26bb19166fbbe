-- what is left of the part is no deeper
use Rattle.std.proofs.Common.{◌≤◌}
use Rattle.rng_core.specs.declared.name_class.NameClass.{size-NameClass}
use Rattle.rng_fill.proofs.names.+in_some_part.Given as goal

abbrev pub invariant-loop-left : goal.invariant-loop-left
invariant-loop-left l = size-NameClass l.left ≤ size-NameClass l.part
