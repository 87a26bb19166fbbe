-- What shapes show: a form by the numbers of its parts, and how large it is.
use Rattle.std.specs.Prelude.{◌≡◌, ℕ, ◌+◌, ◌-◌, ◌<◌, ◌^◌, min, max, List, [], ◌∷◌, ◌++◌, length, map, slice_get}
use Rattle.std.specs.Prelude.{slice_index_or, Option, Some, None, Result, Ok, Err, Contains}
use Rattle.std.specs.List.{fold}
use Rattle.std.specs.Option.{option_map}
use Rattle.rnc_parse.specs.declared.surface.TypeName.{TypeName}
use Rattle.rnc_parse.specs.declared.surface.Param.{Param}
use Rattle.rng_core.specs.Names.{Class, any_name}
use Rattle.rng_simplify.specs.declared.fault.SchemaFault.{SchemaFault}
use Rattle.rng_simplify.specs.declared.fault.SchemaFault.TheVariants as fault
use Rattle.rng_simplify.specs.declared.node.Sign.{Sign}
use Rattle.rng_simplify.specs.declared.node.Sign.TheVariants as sign
use Rattle.rng_simplify.specs.declared.shape.Shape.{Shape}
use Rattle.rng_simplify.specs.declared.shape.Shape.TheVariants as shape
use Rattle.rng_simplify.specs.declared.shape.Head.{Head}
use Rattle.rng_simplify.specs.declared.shape.Head.TheVariants as head
use Rattle.rng_simplify.specs.declared.shape.Size.{Size}
use Rattle.rng_simplify.specs.declared.shape.Entry.{Entry}
use Rattle.rng_simplify.specs.Cells.{Cell}
use Rattle.rng_simplify.specs.Cells as cell
use Rattle.rng_simplify.specs.Datatypes.{builtin_token}
use Rattle.rng_simplify.specs.Forms.{Form, Value, choice_of, group_of, interleave_of, values_of, nodes, depth}
use Rattle.rng_simplify.specs.Forms as form

-- ---- what the cell of a shape says

abbrev pub value_in : Option Cell → Value
value_in (Some (cell.value type text)) = record { type = type; text = text }
value_in _ = record { type = builtin_token; text = [] }

abbrev pub type_in : Option Cell → TypeName
type_in (Some (cell.typed type params part)) = type
type_in _ = builtin_token

abbrev pub params_in : Option Cell → List Param
params_in (Some (cell.typed type params part)) = params
params_in _ = []

abbrev pub class_in : Option Cell → Class
class_in (Some (cell.attribute class part)) = class
class_in _ = any_name

-- ---- the form of a shape

abbrev pub joined_form : Sign → Form → Form → Form
joined_form sign.Choice = form.choice
joined_form sign.Group = form.group
joined_form sign.Interleave = form.interleave

-- two forms joined, in which nothing is left of what is not allowed, or empty, where it counts for nothing
abbrev pub joined_of : Sign → Form → Form → Form
joined_of sign.Choice = choice_of
joined_of sign.Group = group_of
joined_of sign.Interleave = interleave_of

-- by the forms of its parts, where these values are taken from the types of nodes
abbrev pub form_by : List Cell → (ℕ → List Value) → (ℕ → Form) → Shape → Form
form_by cells taken at shape.NotAllowed = form.not_allowed
form_by cells taken at shape.Empty = form.empty
form_by cells taken at shape.Text = form.any_text
form_by cells taken at (shape.Value i) = form.value (value_in (slice_get cells i))
form_by cells taken at (shape.Typed i) = form.typed (type_in (slice_get cells i)) (params_in (slice_get cells i)) (taken i)
form_by cells taken at (shape.Ref number) = form.ref number
form_by cells taken at (shape.List part) = form.listed (at part)
form_by cells taken at (shape.Attribute i part) = form.attribute (class_in (slice_get cells i)) (at part)
form_by cells taken at (shape.OneOrMore part) = form.one_or_more (at part)
form_by cells taken at (shape.Joined by first second) = joined_form by (at first) (at second)

-- the form of a number
abbrev pub among : List Form → ℕ → Form
among forms number = slice_index_or forms number form.not_allowed

-- the forms of all shapes, each by those before it
unfoldable pub shown : List Cell → (ℕ → List Value) → List Shape → List Form
shown cells taken shapes = fold (λ forms s. forms ++ form_by cells taken (among forms) s ∷ []) [] shapes

-- the form that the shape of a number shows
unfoldable pub form_at : List Cell → (ℕ → List Value) → List Shape → ℕ → Form
form_at cells taken shapes = among (shown cells taken shapes)

-- ---- shapes whose parts come before them

abbrev pub shape_parts : Shape → List ℕ
shape_parts shape.NotAllowed = []
shape_parts shape.Empty = []
shape_parts shape.Text = []
shape_parts (shape.Value i) = []
shape_parts (shape.Typed i) = []
shape_parts (shape.Ref number) = []
shape_parts (shape.List part) = part ∷ []
shape_parts (shape.Attribute i part) = part ∷ []
shape_parts (shape.OneOrMore part) = part ∷ []
shape_parts (shape.Joined by first second) = first ∷ second ∷ []

-- each part of the shape has a smaller number
pub record IsBehindParts (number : ℕ) (s : Shape) : Type 0 where
  pub below : (part : ℕ) → Contains (shape_parts s) part → part < number

-- ---- what a form counts for in others

abbrev pub head_of : Form → Head
head_of form.not_allowed = head.NotAllowed
head_of form.empty = head.Empty
head_of q = head.Other

abbrev pub head_by : Shape → Head
head_by shape.NotAllowed = head.NotAllowed
head_by shape.Empty = head.Empty
head_by s = head.Other

-- what the form counts for that the shape shows
pub record IsHeadAt (shapes : List Shape) (number : ℕ) (h : Head) : Type 0 where
  pub counts : (cells : List Cell) (taken : ℕ → List Value) → head_of (form_at cells taken shapes number) ≡ h

-- ---- sizes

-- a number that stops at the greatest
abbrev pub stopped : ℕ → ℕ
stopped n = min n (2 ^ 64 - 1)

-- how large the form is
pub record HasSize (q : Form) (size : Size) : Type 0 where
  pub nodes_are : size.nodes ≡ stopped (nodes q)
  pub depth_is : size.depth ≡ stopped (depth q)
  pub values_are : size.values ≡ option_map (λ values. stopped (length values)) (values_of q)

-- how large the form is that the shape shows, whatever is taken from types
pub record IsSizeAt (shapes : List Shape) (number : ℕ) (size : Size) : Type 0 where
  pub sized : (cells : List Cell) (taken : ℕ → List Value) → HasSize (form_at cells taken shapes number) size

-- how large a form of this shape is
pub record IsSizeOf (shapes : List Shape) (s : Shape) (size : Size) : Type 0 where
  pub sized : (cells : List Cell) (taken : ℕ → List Value) → HasSize (form_by cells taken (form_at cells taken shapes) s) size

abbrev pub shapes_of : List Entry → List Shape
shapes_of entries = map (λ (entry : Entry). entry.shape) entries

-- each shape comes behind its parts, with its size
pub record AreSized (entries : List Entry) : Type 0 where
  pub behind : (number : ℕ) (entry : Entry) → slice_get entries number ≡ Some entry → IsBehindParts number entry.shape
  pub sized : (number : ℕ) (entry : Entry) → slice_get entries number ≡ Some entry → IsSizeAt (shapes_of entries) number entry.size

-- ---- sizes of a form by those of its parts

abbrev pub size_alone : Option ℕ → Size
size_alone values = record { nodes = 1; depth = 1; values = values }

abbrev pub size_around : Size → Size
size_around part = record { nodes = stopped (part.nodes + 1); depth = stopped (part.depth + 1); values = None }

abbrev pub values_beside : Sign → Option ℕ → Option ℕ → Option ℕ
values_beside sign.Choice (Some first) (Some second) = Some (stopped (first + second))
values_beside sign.Choice (Some first) None = None
values_beside sign.Choice None second = None
values_beside sign.Group first second = None
values_beside sign.Interleave first second = None

abbrev pub size_beside : Sign → Size → Size → Size
size_beside by first second = record {
  nodes = stopped (stopped (first.nodes + second.nodes) + 1);
  depth = stopped (max first.depth second.depth + 1);
  values = values_beside by first.values second.values;
}

-- ---- shapes of a schema

-- its node is one of the schema, and its reference is to one of so many elements
abbrev pub IsOfSchema : List Cell → ℕ → Shape → Type 0
IsOfSchema cells count (shape.Value i) = (type : TypeName) × (text : List ℕ) × (slice_get cells i ≡ Some (cell.value type text))
IsOfSchema cells count (shape.Typed i) = (type : TypeName) × (params : List Param) × (part : ℕ)
    × (slice_get cells i ≡ Some (cell.typed type params part))
IsOfSchema cells count (shape.Ref number) = number < count
IsOfSchema cells count (shape.Attribute i part) = (class : Class) × (value : ℕ) × (slice_get cells i ≡ Some (cell.attribute class value))
IsOfSchema cells count _ = Unit {0}

pub record AreOfSchema (cells : List Cell) (count : ℕ) (shapes : List Shape) : Type 0 where
  pub each_is : (number : ℕ) (s : Shape) → slice_get shapes number ≡ Some s → IsOfSchema cells count s

-- ---- further shapes

-- shapes behind others, and one among them that shows this form, made of those of others; they are of a schema where the
-- others and the shape `own` are
pub record IsShown (old new : List Shape) (own : Shape) (made : List Cell → (ℕ → Form) → Form) (number : ℕ) : Type 0 where
  pub more : List Shape
  pub grows : new ≡ old ++ more
  pub within : number < length new
  pub shows : (cells : List Cell) (taken : ℕ → List Value) → form_at cells taken new number ≡ made cells (form_at cells taken old)
  pub kept : (cells : List Cell) (count : ℕ) → IsOfSchema cells count own → AreOfSchema cells count old → AreOfSchema cells count new

-- a call answers its number, unless memory runs out
abbrev pub Shows : List Shape → List Shape → Shape → (List Cell → (ℕ → Form) → Form) → Result ℕ SchemaFault → Type 0
Shows old new own made (Ok number) = IsShown old new own made number
Shows old new own made (Err fault.NoMemory) = Unit {0}
Shows old new own made (Err other) = ⊥

-- a shape is put behind the others
abbrev pub Adds : List Shape → List Shape → Shape → Result ℕ SchemaFault → Type 0
Adds old new s (Ok number) = (number ≡ length old) × (new ≡ old ++ s ∷ [])
Adds old new s (Err fault.NoMemory) = Unit {0}
Adds old new s (Err other) = ⊥
