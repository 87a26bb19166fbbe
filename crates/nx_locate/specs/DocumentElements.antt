-- The document element of a text, as the rules see it.
use Rattle.std.specs.Prelude.{◌≡◌, ℕ, List, ◌∷◌, ◌++◌, Option, Some, None, drop}
use Rattle.std.specs.List.{AllByRecursion}
use Rattle.nx_base.specs.declared.fault.Span.{Span}
use Rattle.nx_base.specs.declared.name.Name.{Name}
use Rattle.nx_events.specs.Items.{items_of_text}
use Rattle.nx_events.specs.Names.{prefix_of, local_of}
use Rattle.nx_events.specs.Tags.{start_name}
use Rattle.nx_events.specs.declared.item.Event.TheVariants.{Enter}
use Rattle.nx_events.specs.declared.item.Item.{Item}
use Rattle.nx_events.specs.declared.item.Item.TheVariants as items
use Rattle.nx_locate.specs.declared.document_element.DocumentElement.{DocumentElement}

-- the item isn't the beginning of an element that has a name
abbrev pub EntersNone : Item → Type 0
EntersNone (items.Event (Enter name) span) = ⊥
EntersNone item = Unit {0}

-- what is known of an element with this name, whose tag is the text from there on
abbrev pub element_at : List ℕ → Name → ℕ → DocumentElement
element_at text name from =
    let written = start_name (drop from text) in
    record { prefix = prefix_of written; local = local_of written; namespace = name.ns }

-- among these items of the text this is the first element that isn't lost
pub record IsFirstIn (text : List ℕ) (all : List Item) (element : DocumentElement) : Type 0 where
  pub before : List Item
  pub name : Name
  pub span : Span
  pub after : List Item
  pub items_are : all ≡ before ++ items.Event (Enter name) span ∷ after
  pub none_before : AllByRecursion EntersNone before
  pub element_is : element ≡ element_at text name span.from

abbrev pub FirstElement : List ℕ → List Item → Option DocumentElement → Type 0
FirstElement text all None = AllByRecursion EntersNone all
FirstElement text all (Some element) = IsFirstIn text all element

-- the first start tag or empty-element tag of the text whose element isn't lost, or that there is none
abbrev pub HasDocumentElement : List ℕ → Option DocumentElement → Type 0
HasDocumentElement text found = FirstElement text (items_of_text text) found
