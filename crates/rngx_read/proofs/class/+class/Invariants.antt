use Rattle.std.proofs.Common.{◌≡◌, ◌∷◌, drop}
use Rattle.rngx_read.specs.Names.{bound_in}
use Rattle.rngx_read.specs.ReadingClasses.{class_readings}
use Rattle.rngx_read.specs.Views.{defaults_of, listed, classes_of}
use Rattle.rngx_read.proofs.Loops.{with_front}
use Rattle.rngx_read.proofs.class.+class.Given as goal

abbrev pub invariant-classes-loop-element : goal.invariant-classes-loop-element
invariant-classes-loop-element l =
    with_front ◌∷◌ (classes_of l.classes.items) ((class_readings bound_in (listed (drop l.element-index l.elements))).classes (defaults_of l.defaults))
    ≡ (class_readings bound_in (listed l.elements)).classes (defaults_of l.defaults)
