-- What the program's values say, and how its parts judge.
use Rattle.std.specs.Prelude.{◌≡◌, true, false, List, [], ◌∷◌, Option, Some, None, Result, Ok, Err}
use Rattle.nx_base.specs.declared.cause.Cause.TheVariants as cause
use Rattle.rnc_parse.specs.declared.surface.NameClass.{NameClass}
use Rattle.rnc_parse.specs.Views.{class_of}
use Rattle.rnc_parse.specs.Written.{WrittenClass}
use Rattle.rnc_parse.specs.Written as written
use Rattle.rng_core.specs.declared.name_class.NameClass.{NameClass as BuiltClass}
use Rattle.rng_core.specs.Meaning.{class_of as built_class}
use Rattle.rng_core.specs.Names.{Class, either}
use Rattle.rng_simplify.specs.Classes.{has_bad_except, names_declarations, names_declarations_of_attribute}
use Rattle.rng_simplify.specs.declared.fault.SchemaFault.{SchemaFault}
use Rattle.rng_simplify.specs.declared.fault.SchemaFault.TheVariants.{Unreadable}

-- a choice of classes by the list of them
abbrev pub classes_behind : WrittenClass → List NameClass → WrittenClass
classes_behind before [] = before
classes_behind before (next ∷ more) = classes_behind (written.either before (class_of next)) more

abbrev pub written_classes : List NameClass → WrittenClass
written_classes [] = written.no_name
written_classes (first ∷ more) = classes_behind (class_of first) more

-- the names of the classes so far, if there are some, and of the next one
abbrev pub choice_and : Option BuiltClass → Class → Class
choice_and None next = next
choice_and (Some choice) next = either (built_class choice) next

-- the class of an element is passed, or refused for a cause that it has
abbrev pub JudgesElementClass : {A : Type 0} → Class → Result A SchemaFault → Type 0
JudgesElementClass class (Ok done) = (has_bad_except class ≡ false) × (names_declarations class ≡ false)
JudgesElementClass class (Err (Unreadable cause.BadExcept)) = has_bad_except class ≡ true
JudgesElementClass class (Err (Unreadable cause.XmlnsName)) = names_declarations class ≡ true
JudgesElementClass class (Err other) = ⊥

-- and that of an attribute
abbrev pub JudgesAttributeClass : {A : Type 0} → Class → Result A SchemaFault → Type 0
JudgesAttributeClass class (Ok done) = (has_bad_except class ≡ false) × (names_declarations_of_attribute class ≡ false)
JudgesAttributeClass class (Err (Unreadable cause.BadExcept)) = has_bad_except class ≡ true
JudgesAttributeClass class (Err (Unreadable cause.XmlnsName)) = names_declarations_of_attribute class ≡ true
JudgesAttributeClass class (Err other) = ⊥
