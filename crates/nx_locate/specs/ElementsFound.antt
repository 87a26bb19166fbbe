-- An item as the beginning of an element.
use Rattle.std.specs.Prelude.{◌≡◌, ℕ, List, Option, Some, None}
use Rattle.nx_base.specs.declared.fault.Span.{Span}
use Rattle.nx_base.specs.declared.name.Name.{Name}
use Rattle.nx_events.specs.declared.item.Event.TheVariants.{Enter}
use Rattle.nx_events.specs.declared.item.Item.{Item}
use Rattle.nx_events.specs.declared.item.Item.TheVariants as items
use Rattle.nx_locate.specs.declared.document_element.DocumentElement.{DocumentElement}
use Rattle.nx_locate.specs.DocumentElements.{EntersNone, element_at}

-- this element begins with the item of the text, or none
abbrev pub IsElement : List ℕ → Item → Option DocumentElement → Type 0
IsElement text item None = EntersNone item
IsElement text item (Some element) =
    (name : Name) × (span : Span) × (item ≡ items.Event (Enter name) span) × (element ≡ element_at text name span.from)
