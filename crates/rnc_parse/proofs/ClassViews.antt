-- The classes and patterns that the program joins.
use Rattle.std.proofs.Common.{◌≡◌, ◌<◌, List, [], ◌∷◌, ◌++◌, length, map, Vec, Global, refl, ap, ◌∙◌, arith}
use mathlib.Core.Former.{Count}
use Rattle.rnc_parse.specs.declared.surface.NameClass.{NameClass, Choice, Choice', Row_of-NameClass, end_of-NameClass, more_of-NameClass, items-the_row-NameClass, items_hidden-the_row-NameClass-0}
use Rattle.rnc_parse.specs.Views.{class_of, classes_of, classes_behind}
use Rattle.rnc_parse.specs.Written.{WrittenClass, no_name, either, joined, joined_or}

pub joined_push : {A : Type 0} (join : A → A → A) (one : A) (others : List A) (last : A) →
    joined join one (others ++ last ∷ []) ≡ join (joined join one others) last
joined_push join one [] last = refl
joined_push join one (next ∷ others) last = joined_push join (join one next) others last

pub joined_or_push : {A : Type 0} (join : A → A → A) (none : A) (all : List A) (last : A) →
    0 < length all → joined_or join none (all ++ last ∷ []) ≡ join (joined_or join none all) last
joined_or_push join none [] last some = absurd (omega arith)
joined_or_push join none (one ∷ others) last some = joined_push join one others last

row_of : NameClass → (n : Count) × Row_of-NameClass n
row_of (Choice' shape row) = (_, row)
row_of _ = (_, end_of-NameClass)

behind_row : (n : _) (before : WrittenClass) (row : Row_of-NameClass n) →
    classes_behind before row ≡ joined either before (map class_of (items-the_row-NameClass n row))
behind_row n before end_of-NameClass = refl
behind_row n before (more_of-NameClass next row) = behind_row _ (either before (class_of next)) row

of_row : (n : _) (row : Row_of-NameClass n) → classes_of row ≡ joined_or either no_name (map class_of (items-the_row-NameClass n row))
of_row n end_of-NameClass = refl
of_row n (more_of-NameClass first row) = behind_row _ (class_of first) row

pub class_of-Choice : (classes : Vec NameClass Global) → class_of (Choice classes) ≡ joined_or either no_name (map class_of classes.items)
unfolding row_of
class_of-Choice classes =
    let row = row_of (Choice classes) in
    of_row row.0 row.1 ∙ ap (λ l. joined_or either no_name (map class_of l)) (items_hidden-the_row-NameClass-0 classes)
