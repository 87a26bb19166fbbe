-- what was added and what is left cover what they shall, and what is left is no deeper
use Rattle.std.proofs.Common.{◌≡◌, ◌≤◌}
use Rattle.std.specs.Prelude.{◌||◌}
use Rattle.nx_base.specs.declared.name.Name.{Name}
use Rattle.rng_core.specs.declared.name_class.NameClass.{size-NameClass}
use Rattle.rng_core.specs.Meaning.{class_of}
use Rattle.rng_core.specs.Names.{covers}
use Rattle.rng_core.specs.SortedClasses.{covers_sorted}
use Rattle.rng_core.proofs.sorted_class.SortedClass.+add.Given as goal

abbrev pub invariant-loop-left : goal.invariant-loop-left
invariant-loop-left l =
    ((n : Name) → (covers_sorted l.self n || covers (class_of l.left) n) ≡ (covers_sorted l.fn.self n || covers (class_of l.class) n))
    × (size-NameClass l.left ≤ size-NameClass l.class)
