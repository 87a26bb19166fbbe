-- Which events are left of a document, and the texts that are written of them.
use Rattle.std.specs.Prelude.{◌≡◌, ℕ, suc, ◌<◌, List, [], ◌∷◌, length, IsTrue}
use Rattle.std.specs.List.{AllByRecursion}
use Rattle.nx_base.specs.Characters.{is_of_chars}
use Rattle.nx_base.specs.Names.{is_xml_name}
use Rattle.nx_base.specs.Trees.{Attribute, Event, Enter, TagEnd, Chars, Leave, attributes_flat}
use Rattle.nx_base.specs.declared.name.Name.{Name}
use Rattle.nx_events.specs.SpelledTags.{IsName}
use Rattle.nx_events.specs.declared.scope.Binding.{Binding}
use Rattle.nx_events.specs.declared.state.OpenElement.{OpenElement}
use Rattle.nx_written.specs.Begun.{WritesBegun}
use Rattle.nx_written.specs.Documents.{Around, in_scope, ArePlain, BeginsApart, Writes, WritesRoot}
use Rattle.nx_written.specs.Reading.{open_elements}

-- inside of so many open elements: strings that aren't empty and stand apart, elements with their attributes first, and the ends of all
pub data AreLeft : ℕ → List Event → Type 0 where
  nothing_left : AreLeft 0 []
  string_left : {n : ℕ} {events : List Event} (text : List ℕ) → 0 < length text → IsTrue (is_of_chars text) → BeginsApart events
      → AreLeft (suc n) events → AreLeft (suc n) (Chars text ∷ events)
  element_left : {n : ℕ} {events : List Event} (name : Name) (attributes : List Attribute) → IsTrue (is_xml_name name) → ArePlain attributes
      → AreLeft (suc (suc n)) events → AreLeft (suc n) (Enter name ∷ attributes_flat attributes (TagEnd ∷ events))
  end_left : {n : ℕ} {events : List Event} → AreLeft n events → AreLeft (suc n) (Leave ∷ events)

-- in front of the root
pub record RootIsLeft (events : List Event) : Type 0 where
  pub name : Name
  pub attributes : List Attribute
  pub after : List Event
  pub named : IsTrue (is_xml_name name)
  pub plain : ArePlain attributes
  pub left : AreLeft 1 after
  pub is : events ≡ Enter name ∷ attributes_flat attributes (TagEnd ∷ after)

-- these elements are open, the innermost first, whose names are Names: so many declarations stand around each, and these are in force
pub record AreOpen (around : List Around) (tags : List OpenElement) (bindings : List Binding) : Type 0 where
  pub open_tags : tags ≡ open_elements around
  pub scope : bindings ≡ in_scope around
  pub names : AllByRecursion (λ (element : Around). IsName element.written) around

-- a text of what is left inside of elements, or in front of the root where none is open
pub record IsRestText (open_tags : List OpenElement) (scope : List Binding) (events : List Event) (text : List ℕ) : Type 0 where
  pub inside : (around : List Around) → AreOpen around open_tags scope → AreLeft (length around) events → Writes around events text
  pub root : open_tags ≡ [] → scope ≡ [] → RootIsLeft events → WritesRoot events text

-- an attribute or more of a tag that is begun, inside of so many elements and its own, and what is left behind the tag
pub record BegunIsLeft (n : ℕ) (events : List Event) : Type 0 where
  pub first : Attribute
  pub others : List Attribute
  pub after : List Event
  pub left : AreLeft n after
  pub is : events ≡ attributes_flat (first ∷ others) (TagEnd ∷ after)

-- a text of what is left behind the white space of a begun tag, which is the innermost of the open ones
abbrev pub IsBegunText : List OpenElement → List Binding → List Event → List ℕ → Type 0
IsBegunText open_tags scope events text = (element : Around) (outer : List Around) → AreOpen (element ∷ outer) open_tags scope →
    (begun : BegunIsLeft (suc (length outer)) events) → WritesBegun outer element.written element.own (begun.first ∷ begun.others) events text
