-- What is put to something wider in a schema file in the XML syntax, by the events of its text (ISO/IEC 19757-2, section 6).
use Rattle.std.specs.Prelude.{ℕ, zero, suc, Bool, true, false, if◌then◌else◌, List, [], ◌∷◌, ◌++◌, length, take}
use Rattle.std.specs.Str.{bytes_eq}
use Rattle.nx_base.specs.declared.fault.Span.{Span}
use Rattle.nx_base.specs.declared.name.Name.{Name}
use Rattle.nx_events.specs.declared.item.Event.TheVariants as events
use Rattle.nx_events.specs.declared.item.Item.{Item}
use Rattle.nx_events.specs.declared.item.Item.TheVariants as items
use Rattle.rngx_read.specs.Elements.{schema_namespace}
use Rattle.rng_widen.specs.declared.open_element.OpenElement.{OpenElement}
use Rattle.rng_widen.specs.declared.widening.Widening.{Widening}
use Rattle.rng_widen.specs.CompactWidenings.{listed}
use Rattle.rng_widen.specs.MarkupPlaces.{around_all, entered, with_child, with_foreign_child, with_attribute, with_param, counted}
use Rattle.rng_widen.specs.MarkupPlaces.{type_widening, facet_widening}

-- the innermost open element of the schema, those around it, innermost first, how many elements are open that are passed over, what is
-- put to something wider so far, and whether there was a fault
pub record Walked : Type 0 where
  pub inner : OpenElement
  pub outer : List OpenElement
  pub passed : ℕ
  pub found : List Widening
  pub faulty : Bool

-- in front of all events
abbrev pub at_start : Walked
at_start = record { inner = around_all; outer = []; passed = 0; found = []; faulty = false }

-- an element of the schema begins at a place
abbrev pub opened : Name → ℕ → Walked → Walked
opened name from walked =
    record walked { inner = entered walked.inner name.local from; outer = with_child walked.inner name.local ∷ walked.outer }

-- an element of another namespace begins: it is passed over with its content
abbrev pub passed_over : Walked → Walked
passed_over walked = record walked { inner = with_foreign_child walked.inner; passed = 1 }

abbrev pub entered_by : ℕ → Name → ℕ → Walked → Walked
entered_by zero name from walked = if bytes_eq name.ns schema_namespace then opened name from walked else passed_over walked
entered_by (suc n) name from walked = record walked { passed = suc (suc n) }

-- an attribute, by its namespace
abbrev pub attribute_if : List ℕ → Name → List ℕ → Span → Walked → Walked
attribute_if [] name value at walked = record walked { inner = with_attribute walked.inner name.local value at }
attribute_if (b ∷ ns) name value at walked = walked

abbrev pub attribute_by : ℕ → Name → List ℕ → Span → Walked → Walked
attribute_by zero name value at walked = attribute_if name.ns name value at walked
attribute_by (suc n) name value at walked = walked

-- a start tag ends, behind so many widenings
abbrev pub tag_ended : Walked → Walked
tag_ended walked = record walked {
  inner = counted walked.inner (length walked.found);
  found = walked.found ++ listed (type_widening walked.inner);
}

abbrev pub tag_ended_by : ℕ → Walked → Walked
tag_ended_by zero walked = tag_ended walked
tag_ended_by (suc n) walked = walked

-- what is kept of what was found where an element ends: a `data` with a facet that is alien to its type stays as it is
abbrev pub kept : OpenElement → List Widening → List Widening
kept element found = if element.alien then take element.before found else found

-- an element ends at a place
abbrev pub closed_by : List OpenElement → ℕ → Walked → Walked
closed_by [] to walked = walked
closed_by (around ∷ outer) to walked = record walked {
  inner = with_param around walked.inner;
  outer = outer;
  found = kept walked.inner walked.found ++ listed (facet_widening around walked.inner to);
}

abbrev pub left_by : ℕ → ℕ → Walked → Walked
left_by zero to walked = closed_by walked.outer to walked
left_by (suc n) to walked = record walked { passed = n }

-- behind an event or a fault
abbrev pub behind_item : Item → Walked → Walked
behind_item (items.Event (events.Enter name) span) walked = entered_by walked.passed name span.from walked
behind_item (items.Event events.EnterLost span) walked = walked
behind_item (items.Event (events.Att name value) span) walked = attribute_by walked.passed name value span walked
behind_item (items.Event events.TagEnd span) walked = tag_ended_by walked.passed walked
behind_item (items.Event (events.Chars text) span) walked = walked
behind_item (items.Event events.Leave span) walked = left_by walked.passed span.to walked
behind_item (items.Fault fault) walked = record walked { faulty = true }

unfoldable pub behind_items : List Item → Walked → Walked
behind_items [] walked = walked
behind_items (item ∷ more) walked = behind_items more (behind_item item walked)

-- nothing in a text with a fault, which is refused as it is
abbrev pub found_in : Walked → List Widening
found_in walked = if walked.faulty then [] else walked.found

unfoldable pub widenings_in : List Item → List Widening
widenings_in items = found_in (behind_items items at_start)
