-- the choice so far and the classes that are left make the whole one
use Rattle.std.proofs.Common.{◌≡◌}
use Rattle.rng_simplify.specs.Classes.{class_in}
use Rattle.rng_simplify.specs.JudgedClasses.{written_classes}
use Rattle.rng_simplify.proofs.Views.{choices_left}
use Rattle.rng_simplify.proofs.class.+class_in.Given as goal

abbrev pub invariant-choice_in-loop-class : goal.invariant-choice_in-loop-class
invariant-choice_in-loop-class l = choices_left l.inherited l.choice l.class-iterator.rest.items ≡ class_in l.inherited (written_classes l.fn.classes.items)
