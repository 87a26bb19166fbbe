-- Rows of the surface as lists.
use Rattle.std.proofs.Common.{◌≡◌, refl, ap, sym, ◌∙◌, ℕ, List, [], ◌∷◌, Option, Some, None, Vec, Global}
use Rattle.rnc_parse.specs.declared.surface.NameClass.{NameClass}
use Rattle.rnc_parse.specs.declared.surface.NameClass as class
use Rattle.rnc_parse.specs.Written.{WrittenClass}
use Rattle.rnc_parse.specs.Written as written
use Rattle.rnc_parse.specs.Views.{class_of, classes_of, classes_behind as row_behind}
use Rattle.rng_core.specs.declared.name_class.NameClass.{NameClass as BuiltClass}
use Rattle.rng_core.specs.Meaning.{class_of as built_class}
use Rattle.rng_core.specs.Names.{Class, either}
use Rattle.rng_simplify.specs.Classes.{class_in}
use Rattle.rng_simplify.specs.JudgedClasses.{classes_behind, written_classes, choice_and}

pub row_behind_is : (n : _) (before : WrittenClass) (row : class.Row_of-NameClass n) → row_behind before row ≡ classes_behind before (class.items-the_row-NameClass n row)
row_behind_is n before class.end_of-NameClass = refl
row_behind_is n before (class.more_of-NameClass next row) = row_behind_is _ (written.either before (class_of next)) row

pub row_is : (n : _) (row : class.Row_of-NameClass n) → classes_of row ≡ written_classes (class.items-the_row-NameClass n row)
row_is n class.end_of-NameClass = refl
row_is n (class.more_of-NameClass first row) = row_behind_is _ (class_of first) row

-- the class of a choice, by those of its parts
abbrev pub choices_behind : List ℕ → Class → List NameClass → Class
choices_behind ns before [] = before
choices_behind ns before (next ∷ more) = choices_behind ns (either before (class_in ns (class_of next))) more

pub choices_are : (ns : List ℕ) (before : WrittenClass) (rest : List NameClass) → class_in ns (classes_behind before rest) ≡ choices_behind ns (class_in ns before) rest
choices_are ns before [] = refl
choices_are ns before (next ∷ more) = choices_are ns (written.either before (class_of next)) more

-- the class of a choice, by the classes so far, if there are some, and those that are left
abbrev pub choices_left : List ℕ → Option BuiltClass → List NameClass → Class
choices_left ns None rest = class_in ns (written_classes rest)
choices_left ns (Some choice) rest = choices_behind ns (built_class choice) rest

-- the next one of these, and then the others
pub left_next : (ns : List ℕ) (choice : Option BuiltClass) (built : BuiltClass) (next : NameClass) (more : List NameClass) → built_class built ≡ choice_and choice (class_in ns (class_of next)) → choices_left ns (Some built) more ≡ choices_left ns choice (next ∷ more)
left_next ns None built next more is = ap (λ k. choices_behind ns k more) is ∙ sym (choices_are ns (class_of next) more)
left_next ns (Some choice) built next more is = ap (λ k. choices_behind ns k more) is

abbrev class_row : NameClass → (n : _) × class.Row_of-NameClass n
class_row (class.Choice' shape row) = (_, row)
class_row c = (_, class.end_of-NameClass)

-- a choice by the list of its classes
pub choice_seen : (classes : Vec NameClass Global) → class_of (class.Choice classes) ≡ written_classes classes.items
choice_seen classes =
    let row = class_row (class.Choice classes) in
    row_is row.0 row.1 ∙ ap written_classes (class.items_hidden-the_row-NameClass-0 classes)
