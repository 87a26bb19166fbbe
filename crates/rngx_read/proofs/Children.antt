-- The children of an element, as the list that the program has.
use Rattle.std.proofs.Common.{◌≡◌, ◌≤◌, List, [], ◌∷◌, length, refl, sym, ap, ◌∙◌, arith}
use Rattle.rnc_parse.specs.Written.{WrittenClass}
use Rattle.rngx_read.specs.declared.element.Element.{Element}
use Rattle.rngx_read.specs.declared.element.Element as elements
use Rattle.rngx_read.specs.Defaults.{Defaults}
use Rattle.rngx_read.specs.Elements.{element_then}
use Rattle.rngx_read.specs.Names.{Resolver}
use Rattle.rngx_read.specs.Reading.{no_form}
use Rattle.rngx_read.specs.ReadingClasses.{childless, class_readings}
use Rattle.rngx_read.specs.Views.{tag_of, children_of, elements_of_row, listed}

row_listed : (n : _) (row : elements.Row_of-Element n) → elements_of_row row ≡ listed (elements.items-the_row-Element n row)
row_listed n elements.end_of-Element = refl
row_listed n (elements.more_of-Element first row) = ap (element_then (tag_of first) (children_of first)) (row_listed _ row)

pub children_are : (element : Element) → children_of element ≡ listed (elements.out-Element element).children.items
children_are (elements.Element' tag at shape row) =
    row_listed _ row
    ∙ ap listed (sym (elements.items_shown-the_row-Element-0 shape row))
    ∙ ap (λ (element : elements.Element-F Element). listed element.children.items) (sym (elements.outs-Element' tag at shape row))

-- some element stands there
pub some_child : (children : List Element) → 1 ≤ length children → childless (listed children) ≡ no_form
some_child [] some = absurd (omega arith)
some_child (first ∷ more) some = refl

-- nothing may stand beside an `except`
pub no_two_excepts : (resolve : Resolver) (children : List Element) (defaults : Defaults) (all : WrittenClass) → 2 ≤ length children →
    (class_readings resolve (listed children)).except defaults all ≡ no_form
unfolding class_readings
no_two_excepts resolve [] defaults all two = absurd (omega arith)
no_two_excepts resolve (one ∷ []) defaults all two = absurd (omega arith)
no_two_excepts resolve (one ∷ next ∷ more) defaults all two = refl
