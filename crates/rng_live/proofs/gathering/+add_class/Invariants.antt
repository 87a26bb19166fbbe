use Rattle.std.proofs.Common.{◌≡◌, ◌≤◌}
use Rattle.rng_core.specs.declared.name_class.NameClass.{size-NameClass}
use Rattle.rng_core.specs.Meaning.{class_of}
use Rattle.rng_live.specs.Gathered.{with_class}
use Rattle.rng_live.proofs.gathering.+add_class.Given as goal

abbrev pub invariant-loop-class : goal.invariant-loop-class
invariant-loop-class l = record {
  found : with_class l.asked (class_of l.class) l.found.items ≡ with_class l.initial.asked (class_of l.initial.class) l.initial.found.items;
  no_deeper : size-NameClass l.class ≤ size-NameClass l.initial.class;
}
