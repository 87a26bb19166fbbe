-- The elements that the program puts together.
use Rattle.std.proofs.Common.{ℕ, ◌≡◌, List, [], ◌∷◌, ◌++◌, Vec, Global, refl, ap, ◌∙◌}
use Rattle.rngx_read.specs.declared.element.Element as elements
use Rattle.rngx_read.specs.declared.element.Element.{Element}
use Rattle.rngx_read.specs.declared.element.Tag.{Tag}
use Rattle.rngx_read.specs.Elements.{no_elements, element_then}
use Rattle.rngx_read.specs.Building.{elements_and}
use Rattle.rngx_read.specs.Views.{tag_of, children_of, listed}
use Rattle.rngx_read.proofs.Children.{children_are}

-- an element that is put together
pub tag_of_made : (tag : Tag) (at : ℕ) (children : Vec Element Global) →
    tag_of (elements.roll-Element (record { tag = tag; at = at; children = children })) ≡ tag
tag_of_made tag at children =
    ap (λ (e : elements.Element-F Element). e.tag) (elements.out-roll-Element (record { tag = tag; at = at; children = children }))

pub children_of_made : (tag : Tag) (at : ℕ) (children : Vec Element Global) →
    children_of (elements.roll-Element (record { tag = tag; at = at; children = children })) ≡ listed children.items
children_of_made tag at children =
    children_are (elements.roll-Element (record { tag = tag; at = at; children = children }))
    ∙ ap (λ (e : elements.Element-F Element). listed e.children.items)
    (elements.out-roll-Element (record { tag = tag; at = at; children = children }))

-- one more
pub listed_push : (all : List Element) (one : Element) → listed (all ++ one ∷ [])
    ≡ elements_and (listed all) (element_then (tag_of one) (children_of one) no_elements)
listed_push [] one = refl
listed_push (x ∷ all) one = ap (element_then (tag_of x) (children_of x)) (listed_push all one)
