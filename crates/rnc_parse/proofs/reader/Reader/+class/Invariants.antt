use Rattle.std.proofs.Common.{◌+◌, ◌*◌, length}
use Rattle.rnc_parse.specs.Looking.{scope_in}
use Rattle.rnc_parse.specs.Views.{class_of}
use Rattle.rnc_parse.specs.ReadingClasses.{class_inside, more_classes_at}
use Rattle.rnc_parse.proofs.ClassLoop.{Keeps}
use Rattle.rnc_parse.proofs.reader.Reader.+class.Given as goal

abbrev pub decreases-class : goal.decreases-class
decreases-class l = l.left * 8 + 5

abbrev pub decreases-except_class : goal.decreases-except_class
decreases-except_class l = l.left * 8 + 4

abbrev pub decreases-several_classes : goal.decreases-several_classes
decreases-several_classes l = l.left * 8 + 4

abbrev pub decreases-more_classes : goal.decreases-more_classes
decreases-more_classes l = l.left * 8 + 3

abbrev pub decreases-annotated_class : goal.decreases-annotated_class
decreases-annotated_class l = l.left * 8 + 2

abbrev pub decreases-one_class : goal.decreases-one_class
decreases-one_class l = l.left * 8 + 1

abbrev pub decreases-parenthesized_class : goal.decreases-parenthesized_class
decreases-parenthesized_class l = l.left * 8

abbrev pub invariant-more_classes-classes : goal.invariant-more_classes-classes
invariant-more_classes-classes l = Keeps (scope_in l.self.look_ups) l.unprefixed l.left l.classes.items l.cursor (more_classes_at (scope_in l.self.look_ups) l.unprefixed (class_inside (scope_in l.self.look_ups) l.unprefixed l.left) (class_of l.fn.first) l.fn.cursor)

abbrev pub decreases-more_classes-classes : goal.decreases-more_classes-classes
decreases-more_classes-classes l = length l.cursor
