-- where what is left of the part mentions none, the part mentions none; and it is no deeper
use Rattle.std.proofs.Common.{◌≡◌, ◌≤◌, true}
use Rattle.rng_core.specs.declared.name_class.NameClass.{size-NameClass}
use Rattle.rng_core.specs.Meaning.{class_of}
use Rattle.rng_fill.specs.ClassNames.{HasNoneOf}
use Rattle.rng_fill.proofs.names.+mentioned_name.Given as goal

abbrev pub invariant-loop-left : goal.invariant-loop-left
invariant-loop-left l = record {
  rest : (l.excepts ≡ true → HasNoneOf l.bearer (class_of l.class) (class_of l.left))
      → l.excepts ≡ true → HasNoneOf l.bearer (class_of l.class) (class_of l.part);
  size : size-NameClass l.left ≤ size-NameClass l.part;
}
