-- where there is none in the namespaces that are left, there is none in those of the part; and it is no deeper
use Rattle.std.proofs.Common.{◌≤◌}
use Rattle.rng_core.specs.declared.name_class.NameClass.{size-NameClass}
use Rattle.rng_core.specs.Meaning.{class_of}
use Rattle.rng_fill.specs.ClassNames.{HasNoneWith}
use Rattle.rng_fill.proofs.names.+in_mentioned.Given as goal

abbrev pub invariant-loop-left : goal.invariant-loop-left
invariant-loop-left l = record {
  rest : HasNoneWith l.bearer (class_of l.class) l.local (class_of l.left) → HasNoneWith l.bearer (class_of l.class) l.local (class_of l.part);
  size : size-NameClass l.left ≤ size-NameClass l.part;
}
