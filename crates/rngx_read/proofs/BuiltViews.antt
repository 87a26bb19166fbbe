-- What the builder of elements holds.
use Rattle.std.proofs.Common.{◌≡◌, List, [], ◌∷◌, ◌++◌, map, reverse, refl, ap, ◌∙◌}
use Rattle.std.proofs.lemmas.List.{reverse-append}
use Rattle.rngx_read.specs.declared.build.Builder.{Builder}
use Rattle.rngx_read.specs.declared.build.Open.{Open}
use Rattle.rngx_read.specs.declared.element.Element as elements
use Rattle.rngx_read.specs.declared.element.Element.{Element}
use Rattle.rngx_read.specs.declared.element.Tag.{Tag}
use Rattle.rngx_read.specs.Building.{left_by, elements_and}
use Rattle.rngx_read.specs.Elements.{Elements, no_elements, element_then}
use Rattle.rngx_read.specs.Views.{children_of, listed, frame_of, built_of}
use Rattle.rngx_read.proofs.ElementViews.{tag_of_made, children_of_made, listed_push}

-- the innermost element ended, and is the last child of the one around it
pub left_is : (before : Builder) (last now ended : Open) (outer : List Open) (children : List Element) → before.passed ≡ 0 →
    before.outer.items ≡ outer ++ last ∷ [] → now ≡ last → ended ≡ before.inner →
    children ≡ now.children.items ++ elements.roll-Element (record { tag = ended.tag; at = ended.at; children = ended.children }) ∷ [] →
    record {
      inner = record { tag = now.tag; children = listed children };
      outer = map frame_of (reverse outer);
      passed = before.passed;
      declared = reverse before.declared.items;
    }
    ≡ left_by before.passed (built_of before)
left_is before last now ended outer children none outer_is now_is ended_is pushed =
    rw (none, outer_is, reverse-append outer (last ∷ []), pushed_row, now_is) refl
  where
    pushed_row : listed children ≡ elements_and (listed last.children.items)
        (element_then before.inner.tag (listed before.inner.children.items) no_elements)
    pushed_row =
        let one = elements.roll-Element (record { tag = ended.tag; at = ended.at; children = ended.children }) in
        ap listed pushed ∙ listed_push now.children.items one
        ∙ ap (λ (t : Tag). elements_and (listed now.children.items) (element_then t (children_of one) no_elements))
        (tag_of_made ended.tag ended.at ended.children)
        ∙ ap (λ (e : Elements). elements_and (listed now.children.items) (element_then ended.tag e no_elements))
        (children_of_made ended.tag ended.at ended.children)
        ∙ ap (λ (o : Open). elements_and (listed o.children.items) (element_then ended.tag (listed ended.children.items) no_elements)) now_is
        ∙ ap (λ (o : Open). elements_and (listed last.children.items) (element_then o.tag (listed o.children.items) no_elements)) ended_is
