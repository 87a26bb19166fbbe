-- An open element of a schema in the XML syntax, as far as it says which type a `data` names and which facets it gives (ISO/IEC 19757-2,
-- section 6).
use Rattle.std.specs.Prelude.{ℕ, ◌-◌, ◌&&◌, ◌||◌, not, nat_le, Bool, true, false, if◌then◌else◌, List, [], length, codes, Option, Some, None}
use Rattle.std.specs.Str.{bytes_eq}
use Rattle.nx_base.specs.declared.fault.Span.{Span}
use Rattle.rng_widen.specs.declared.facet.Facet.{Facet}
use Rattle.rng_widen.specs.declared.open_element.OpenElement.{OpenElement}
use Rattle.rng_widen.specs.declared.open_element.Part.{Part}
use Rattle.rng_widen.specs.declared.open_element.Part.TheVariants as part
use Rattle.rng_widen.specs.declared.schema_type.SchemaType.{SchemaType}
use Rattle.rng_widen.specs.declared.widening.Note.TheVariants as note
use Rattle.rng_widen.specs.declared.widening.Widening.{Widening}
use Rattle.rng_widen.specs.CompactHead.{schema_library}
use Rattle.rng_widen.specs.Facets.{has_facet, is_left_out_of}
use Rattle.rng_widen.specs.Naming.{trimmed, type_named, facet_named}
use Rattle.rng_widen.specs.Types.{type_text, wider_type}

-- which element it is, by its local name
abbrev pub part_of : List ℕ → Part
part_of local =
    if bytes_eq local (codes "data") then part.Data
    else (if bytes_eq local (codes "param") then part.Param
    else (if bytes_eq local (codes "except") then part.Except
    else part.Other))

abbrev pub is_data : Part → Bool
is_data part.Data = true
is_data _ = false

abbrev pub is_param : Part → Bool
is_param part.Param = true
is_param _ = false

abbrev pub is_except : Part → Bool
is_except part.Except = true
is_except _ = false

abbrev pub no_span : Span
no_span = record { from = 0; to = 0 }

-- an element begins in another, at a place
abbrev pub entered : OpenElement → List ℕ → ℕ → OpenElement
entered outer local from = record {
  part = part_of local;
  from = from;
  schemas = outer.schemas;
  excepted = outer.excepted || is_except outer.part;
  plain = true;
  named = None;
  type_at = no_span;
  facet = None;
  before = 0;
  alien = false;
}

-- what is around all elements
abbrev pub around_all : OpenElement
around_all = record {
  part = part.Other;
  from = 0;
  schemas = false;
  excepted = false;
  plain = true;
  named = None;
  type_at = no_span;
  facet = None;
  before = 0;
  alien = false;
}

-- An element of the schema begins in this one. A `data` stays plain while params alone came
abbrev pub with_child : OpenElement → List ℕ → OpenElement
with_child element local = record element { plain = element.plain && (is_data element.part && is_param (part_of local)) }

-- an element of another namespace does, or it has an attribute that a param has no use for: a param isn't plain any more
abbrev pub with_foreign_child : OpenElement → OpenElement
with_foreign_child element = record element { plain = element.plain && not (is_param element.part) }

-- an attribute in no namespace, with its value, and where that stands: the library, a type, a facet. Names have no white space around them
-- (7.3)
abbrev pub with_library : OpenElement → List ℕ → OpenElement
with_library element value = record element { schemas = bytes_eq value schema_library }

abbrev pub with_type : OpenElement → List ℕ → Span → OpenElement
with_type element value at =
    record element { named = type_named (trimmed value); type_at = at; plain = element.plain && not (is_param element.part) }

abbrev pub with_facet : OpenElement → List ℕ → OpenElement
with_facet element value = record element { facet = facet_named (trimmed value) }

abbrev pub with_attribute : OpenElement → List ℕ → List ℕ → Span → OpenElement
with_attribute element local value at =
    if bytes_eq local (codes "datatypeLibrary") then with_library element value
    else (if bytes_eq local (codes "type") then with_type element value at
    else (if bytes_eq local (codes "name") then with_facet element value
    else (if bytes_eq local (codes "ns") then element
    else with_foreign_child element)))

-- the type that a `data` names, where that is one of XML Schema's library
abbrev pub type_of : OpenElement → Option SchemaType
type_of element = if is_data element.part && element.schemas then element.named else None

-- so many things were put to something wider in front of the end of its tag
abbrev pub counted : OpenElement → ℕ → OpenElement
counted element count = record element { before = count }

-- A `data` with a param that ends in it. One that gives a facet that the type doesn't have is alien to it
abbrev pub is_alien_by : Option SchemaType → Option Facet → Bool
is_alien_by (Some named) (Some facet) = not (has_facet named facet)
is_alien_by _ _ = false

abbrev pub is_alien : OpenElement → OpenElement → Bool
is_alien outer element = is_param element.part && is_alien_by (type_of outer) element.facet

abbrev pub with_param : OpenElement → OpenElement → OpenElement
with_param outer element = record outer { alien = outer.alien || is_alien outer element }

-- ---- what is put to something wider

-- a type that isn't held, where the name of the wider one has room
abbrev pub wider_by : Span → SchemaType → Option SchemaType → Option Widening
wider_by at old None = None
wider_by at old (Some wider) =
    if nat_le (length (type_text wider)) (at.to - at.from)
    then Some (record { from = at.from; to = at.to; word = type_text wider; note = note.Type old wider })
    else None

abbrev pub type_by : Span → Option SchemaType → Option Widening
type_by at None = None
type_by at (Some old) = wider_by at old (wider_type old)

-- of an element whose tag ends; nothing in what is excepted
unfoldable pub type_widening : OpenElement → Option Widening
type_widening element = if element.excepted then None else type_by element.type_at (type_of element)

-- a facet of this type, with its element, which ends at a place
abbrev pub facet_by : ℕ → ℕ → SchemaType → Option Facet → Option Widening
facet_by from to old None = None
facet_by from to old (Some facet) =
    if is_left_out_of old facet then Some (record { from = from; to = to; word = []; note = note.Facet facet }) else None

abbrev pub facet_in : ℕ → ℕ → Option SchemaType → Option Facet → Option Widening
facet_in from to None facet = None
facet_in from to (Some old) facet = facet_by from to old facet

-- A param that ends in this element, while params alone came there. It has no other attributes and nothing but a string in it, so
-- what is left out has the form of a param
abbrev pub is_lone : OpenElement → OpenElement → Bool
is_lone outer element = is_param element.part && (element.plain && (outer.plain && not element.excepted))

unfoldable pub facet_widening : OpenElement → OpenElement → ℕ → Option Widening
facet_widening outer element to = if is_lone outer element then facet_in element.from to (type_of outer) element.facet else None
