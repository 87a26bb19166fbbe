-- none of the classes so far covers it
use Rattle.std.proofs.Common.{◌≡◌, false, take}
use Rattle.rng_core.specs.SortedClasses.{some_covers}
use Rattle.rng_core.proofs.sorted_class.one_covers.Given as goal

abbrev pub invariant-loop-class : goal.invariant-loop-class
invariant-loop-class l = some_covers (take l.class-index l.classes) l.name ≡ false
