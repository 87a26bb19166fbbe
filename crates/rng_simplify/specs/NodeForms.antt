-- Of what the forms of nodes and combined definitions are made: each of the forms of what it leads to.
use Rattle.std.specs.Prelude.{◌≡◌, ℕ, ◌+◌, ◌<◌, List, [], ◌∷◌, ◌++◌, length, map, slice_get, slice_set, slice_index}
use Rattle.std.specs.Prelude.{Some, Result, Ok, Err, Contains}
use Rattle.rnc_parse.specs.declared.surface.Combine.{Combine}
use Rattle.rnc_parse.specs.declared.surface.TypeName.{TypeName}
use Rattle.rnc_parse.specs.declared.surface.Param.{Param}
use Rattle.rnc_parse.specs.Written.{joined}
use Rattle.rng_core.specs.Names.{Class}
use Rattle.rng_simplify.specs.declared.fault.SchemaFault.{SchemaFault}
use Rattle.rng_simplify.specs.declared.fault.SchemaFault.TheVariants as fault
use Rattle.rng_simplify.specs.declared.form.Forms.{Forms}
use Rattle.rng_simplify.specs.declared.node.Sign.{Sign}
use Rattle.rng_simplify.specs.declared.resolve.Combined.{Combined}
use Rattle.rng_simplify.specs.declared.resolve.Resolved.{Resolved}
use Rattle.rng_simplify.specs.declared.resolve.Target.{Target}
use Rattle.rng_simplify.specs.declared.shape.Shape.{Shape}
use Rattle.rng_simplify.specs.Cells.{Cell}
use Rattle.rng_simplify.specs.Cells as cell
use Rattle.rng_simplify.specs.CellMeanings.{IsCell}
use Rattle.rng_simplify.specs.Forms.{Form, Value, list_of, attribute_of, one_or_more_of, combined_by, values_of}
use Rattle.rng_simplify.specs.Forms as form
use Rattle.rng_simplify.specs.ResolvedNodes.{combined_number, element_number, target_at, IsLinkedAs, number_at, leads}
use Rattle.rng_simplify.specs.Shown.{joined_of, form_at, AreOfSchema}

-- ---- forms of cells and combined definitions

-- that of a cell by those of what it leads to, where combined definitions have the places from `count` on and these values are taken from
-- its type
abbrev pub cell_form : (ℕ → Form) → ℕ → Target → List Value → Cell → Form
cell_form at count link values (cell.element class part) = form.ref (element_number link)
cell_form at count link values (cell.attribute class part) = attribute_of class (at part)
cell_form at count link values (cell.listed part) = list_of (at part)
cell_form at count link values (cell.ref name) = at (count + combined_number link)
cell_form at count link values (cell.parent_ref name) = at (count + combined_number link)
cell_form at count link values cell.empty = form.empty
cell_form at count link values cell.any_text = form.any_text
cell_form at count link values cell.not_allowed = form.not_allowed
cell_form at count link values (cell.value type text) = form.value (record { type = type; text = text })
cell_form at count link values (cell.typed type params part) = form.typed type params values
cell_form at count link values (cell.grammar clauses) = at (count + combined_number link)
cell_form at count link values (cell.one_or_more part) = one_or_more_of (at part)
cell_form at count link values (cell.joined by first second) = joined_of by (at first) (at second)

abbrev pub bodies_form : Combine → List Form → Form
bodies_form combine [] = form.not_allowed
bodies_form combine (first ∷ more) = joined (combined_by combine) first more

-- that of combined definitions by those of their bodies
abbrev pub combined_form : (ℕ → Form) → Combined → Form
combined_form at combination = bodies_form combination.combine (map at combination.bodies.items)

-- ---- forms by numbers

-- the form that the shape of a node or of combined definitions shows
abbrev pub form_in : List Cell → (ℕ → List Value) → List Shape → List ℕ → ℕ → Form
form_in cells taken shapes of i = form_at cells taken shapes (slice_index of i)

abbrev pub form_of : List Cell → (ℕ → List Value) → Forms → ℕ → Form
form_of cells taken forms = form_in cells taken forms.shapes forms.of.items

-- it has a shape
pub record IsKnown (shapes : List Shape) (of : List ℕ) (i : ℕ) : Type 0 where
  pub within : i < length of
  pub there : slice_index of i < length shapes

-- it stands in front of this place of the order
pub record IsBefore (order : List ℕ) (end i : ℕ) : Type 0 where
  pub place : ℕ
  pub before : place < end
  pub there : slice_get order place ≡ Some i

-- an order in which each node stands behind those to which it leads, and combined definitions alike
pub record IsInOrder (cells : List Cell) (found : Resolved) (order : List ℕ) : Type 0 where
  pub within : (place i : ℕ) → slice_get order place ≡ Some i → i < length cells + length found.combined.items
  pub all_links : length found.links.items ≡ length cells
  pub linked : (place i : ℕ) (c : Cell) → slice_get order place ≡ Some i → IsCell cells i c → IsLinkedAs c (target_at found i)
  pub numbered : (place i : ℕ) (class : Class) (part : ℕ) → slice_get order place ≡ Some i → IsCell cells i (cell.element class part) →
      number_at found i < length found.elements.items
  pub once : (place other i : ℕ) → slice_get order place ≡ Some i → slice_get order other ≡ Some i → place ≡ other
  pub behind : (place i j : ℕ) → slice_get order place ≡ Some i → Contains (leads cells found i) j → IsBefore order place j

-- these other cells have the cells in front of this place
pub record AreAlike (cells others : List Cell) (order : List ℕ) (end : ℕ) : Type 0 where
  pub alike : (i : ℕ) (c : Cell) → IsBefore order end i → IsCell cells i c → IsCell others i c

-- the nodes and combined definitions in front of this place have their forms
pub record AreFormed (cells : List Cell) (found : Resolved) (order : List ℕ) (end : ℕ) (forms : Forms) : Type 0 where
  pub all : length forms.of.items ≡ length cells + length found.combined.items
  pub known : (i : ℕ) → IsBefore order end i → IsKnown forms.shapes forms.of.items i
  pub node_is : (i : ℕ) (c : Cell) (taken : ℕ → List Value) → IsBefore order end i → IsCell cells i c →
      form_of cells taken forms i ≡ cell_form (form_of cells taken forms) (length cells) (target_at found i) (taken i) c
  pub combination_is : (number : ℕ) (combination : Combined) (taken : ℕ → List Value) → IsBefore order end (length cells + number) →
      slice_get found.combined.items number ≡ Some combination →
      form_of cells taken forms (length cells + number) ≡ combined_form (form_of cells taken forms) combination
  -- their shapes are of nodes in front of the place alone
  pub of_schema : (others : List Cell) → AreAlike cells others order end → AreOfSchema others (length found.elements.items) forms.shapes

-- all of the order have
pub record AreForms (cells : List Cell) (found : Resolved) (order : List ℕ) (forms : Forms) : Type 0 where
  pub formed : AreFormed cells found order (length order) forms

-- these values are what the types in front of this place say that is taken from them
pub record AreTaken (cells : List Cell) (order : List ℕ) (end : ℕ) (taken : ℕ → List Value) (forms : Forms) : Type 0 where
  pub each_is : (i : ℕ) (type : TypeName) (params : List Param) (part : ℕ) → IsBefore order end i →
      IsCell cells i (cell.typed type params part) → values_of (form_of cells taken forms part) ≡ Some (taken i)

-- ---- what calls do

-- room for so many, and no shape yet
abbrev pub IsRoom : ℕ → Result Forms SchemaFault → Type 0
IsRoom count (Ok forms) = (length forms.of.items ≡ count) × (forms.shapes ≡ [])
IsRoom count (Err fault.NoMemory) = Unit {0}
IsRoom count (Err other) = ⊥

-- an element's number is below this
abbrev pub IsNumberedBelow : ℕ → Target → Cell → Type 0
IsNumberedBelow count link (cell.element class part) = element_number link < count
IsNumberedBelow count link c = Unit {0}

-- a shape behind others, or one of them, shows the form of a node with this cell
pub record IsCellMade (old new : List Shape) (of : List ℕ) (count i : ℕ) (link : Target) (c : Cell) (number : ℕ) : Type 0 where
  pub more : List Shape
  pub grows : new ≡ old ++ more
  pub within : number < length new
  pub shows : (cells : List Cell) (taken : ℕ → List Value) → IsCell cells i c →
      form_at cells taken new number ≡ cell_form (form_in cells taken old of) count link (taken i) c
  pub kept : (cells : List Cell) (elements : ℕ) → IsCell cells i c → IsNumberedBelow elements link c → AreOfSchema cells elements old →
      AreOfSchema cells elements new

abbrev pub MakesCell : List Shape → List Shape → List ℕ → ℕ → ℕ → Target → Cell → Result ℕ SchemaFault → Type 0
MakesCell old new of count i link c (Ok number) = IsCellMade old new of count i link c number
MakesCell old new of count i link c (Err fault.NoMemory) = Unit {0}
MakesCell old new of count i link c (Err other) = ⊥

-- and so of combined definitions
pub record IsCombinedMade (old new : List Shape) (of : List ℕ) (combine : Combine) (bodies : List ℕ) (number : ℕ) : Type 0 where
  pub more : List Shape
  pub grows : new ≡ old ++ more
  pub within : number < length new
  pub shows : (cells : List Cell) (taken : ℕ → List Value) →
      form_at cells taken new number ≡ bodies_form combine (map (form_in cells taken old of) bodies)
  pub kept : (cells : List Cell) (elements : ℕ) → AreOfSchema cells elements old → AreOfSchema cells elements new

abbrev pub MakesCombined : List Shape → List Shape → List ℕ → Combine → List ℕ → Result ℕ SchemaFault → Type 0
MakesCombined old new of combine bodies (Ok number) = IsCombinedMade old new of combine bodies number
MakesCombined old new of combine bodies (Err fault.NoMemory) = Unit {0}
MakesCombined old new of combine bodies (Err other) = ⊥

-- and so of a form with those of others joined to it, one by one
pub record AreAllJoined (old new : List Shape) (of : List ℕ) (by : Sign) (first : ℕ) (others : List ℕ) (number : ℕ) : Type 0 where
  pub more : List Shape
  pub grows : new ≡ old ++ more
  pub within : number < length new
  pub shows : (cells : List Cell) (taken : ℕ → List Value) →
      form_at cells taken new number ≡ joined (joined_of by) (form_at cells taken old first) (map (form_in cells taken old of) others)
  pub kept : (cells : List Cell) (elements : ℕ) → AreOfSchema cells elements old → AreOfSchema cells elements new

abbrev pub JoinsAll : List Shape → List Shape → List ℕ → Sign → ℕ → List ℕ → Result ℕ SchemaFault → Type 0
JoinsAll old new of by first others (Ok number) = AreAllJoined old new of by first others number
JoinsAll old new of by first others (Err fault.NoMemory) = Unit {0}
JoinsAll old new of by first others (Err other) = ⊥

-- and so of a node or combined definitions by their place
pub record IsMade (cells : List Cell) (found : Resolved) (i : ℕ) (old new : List Shape) (of : List ℕ) (number : ℕ) : Type 0 where
  pub more : List Shape
  pub grows : new ≡ old ++ more
  pub within : number < length new
  pub node_is : (c : Cell) (taken : ℕ → List Value) → IsCell cells i c →
      form_at cells taken new number ≡ cell_form (form_in cells taken old of) (length cells) (target_at found i) (taken i) c
  pub combination_is : (n : ℕ) (combination : Combined) (taken : ℕ → List Value) → i ≡ length cells + n →
      slice_get found.combined.items n ≡ Some combination →
      form_at cells taken new number ≡ combined_form (form_in cells taken old of) combination
  pub kept : (others : List Cell) (elements : ℕ) → ((c : Cell) → IsCell cells i c → IsCell others i c) → ((c : Cell) → IsCell cells i c →
      IsNumberedBelow elements (target_at found i) c) → AreOfSchema others elements old → AreOfSchema others elements new

abbrev pub Makes : List Cell → Resolved → ℕ → List Shape → List Shape → List ℕ → Result ℕ SchemaFault → Type 0
Makes cells found i old new of (Ok number) = IsMade cells found i old new of number
Makes cells found i old new of (Err fault.NoMemory) = Unit {0}
Makes cells found i old new of (Err other) = ⊥

-- a node or combined definitions are given their shape
pub record IsPlaced (cells : List Cell) (found : Resolved) (i : ℕ) (old new : Forms) : Type 0 where
  pub number : ℕ
  pub set : new.of.items ≡ slice_set old.of.items i number
  pub made : IsMade cells found i old.shapes new.shapes old.of.items number

abbrev pub Places : List Cell → Resolved → ℕ → Forms → Forms → Result (Unit {0}) SchemaFault → Type 0
Places cells found i old new (Ok done) = IsPlaced cells found i old new
Places cells found i old new (Err fault.NoMemory) = Unit {0}
Places cells found i old new (Err other) = ⊥

-- forms of the whole order
abbrev pub MakesForms : List Cell → Resolved → List ℕ → Result Forms SchemaFault → Type 0
MakesForms cells found order (Ok forms) = AreForms cells found order forms
MakesForms cells found order (Err fault.NoMemory) = Unit {0}
MakesForms cells found order (Err other) = ⊥
