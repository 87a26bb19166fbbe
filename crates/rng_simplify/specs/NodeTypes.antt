-- Types of nodes: what their names stand for, and what is taken from them.
use Rattle.std.specs.Prelude.{◌≡◌, ◌≢◌, ℕ, ◌<◌, ◌≤◌, ◌⊎◌, List, [], ◌∷◌, ◌++◌, length, map, slice_get, slice_index}
use Rattle.std.specs.Prelude.{slice_index_or, Option, Some, None, Result, Ok, Err, Vec, Contains}
use Rattle.std.specs.declared.alloc.Global.{Global}
use Rattle.std.specs.List.{AllByRecursion}
use Rattle.nx_base.specs.declared.cause.Cause.{Cause}
use Rattle.nx_base.specs.declared.cause.Cause.TheVariants as cause
use Rattle.rnc_parse.specs.declared.surface.TypeName.{TypeName}
use Rattle.rnc_parse.specs.declared.surface.Param.{Param}
use Rattle.rng_types.specs.declared.datatype.Datatype.{Datatype}
use Rattle.rng_types.specs.declared.datatype.Except.{Except}
use Rattle.rng_types.specs.declared.fault.TypeFault.{TypeFault}
use Rattle.rng_types.specs.declared.fault.TypeFault.TheVariants as type_fault
use Rattle.rng_core.specs.Soundness.{IsSoundExcept}
use Rattle.rng_simplify.specs.declared.fault.SchemaFault.{SchemaFault}
use Rattle.rng_simplify.specs.declared.fault.SchemaFault.TheVariants as fault
use Rattle.rng_simplify.specs.declared.form.Forms.{Forms}
use Rattle.rng_simplify.specs.declared.shape.Shape.{Shape}
use Rattle.rng_simplify.specs.declared.types.NodeType.{NodeType}
use Rattle.rng_simplify.specs.Broken.{IsForeign, except_limit}
use Rattle.rng_simplify.specs.Cells.{Cell}
use Rattle.rng_simplify.specs.Cells as cell
use Rattle.rng_simplify.specs.Datatypes.{datatype_of, MayWrite, AreExcepts, builtin_string, builtin_token}
use Rattle.rng_simplify.specs.CellMeanings.{IsCell}
use Rattle.rng_simplify.specs.NodeForms.{IsBefore, IsKnown}
use Rattle.rng_simplify.specs.Forms.{Value, values_of}
use Rattle.rng_simplify.specs.NodePlaces.{cell_parts}
use Rattle.rng_simplify.specs.Shown.{value_in, form_at, AreOfSchema}

-- ---- types by their names

-- the refusal for which a name has no type
abbrev pub IsRefusalOf : TypeFault → SchemaFault → Type 0
IsRefusalOf type_fault.UnknownType refusal = refusal ≡ fault.Unreadable cause.UnknownType
IsRefusalOf type_fault.UnknownParam refusal = refusal ≡ fault.Unreadable cause.UnknownParam
IsRefusalOf type_fault.BadParam refusal = refusal ≡ fault.Unreadable cause.BadParam
IsRefusalOf type_fault.NoMemory refusal = refusal ≡ fault.NoMemory
IsRefusalOf type_fault.TooManyExcepts refusal = ⊥

-- a call answers the type of a name with these params, or why there is none
abbrev pub Names : TypeName → List Param → Result Datatype SchemaFault → Type 0
Names type params (Ok datatype) = datatype_of type params ≡ Ok datatype
Names type params (Err (fault.Unreadable cause.UnknownType)) = datatype_of type params ≡ Err type_fault.UnknownType
Names type params (Err (fault.Unreadable cause.UnknownParam)) = datatype_of type params ≡ Err type_fault.UnknownParam
Names type params (Err (fault.Unreadable cause.BadParam)) = datatype_of type params ≡ Err type_fault.BadParam
Names type params (Err fault.NoMemory) = Unit {0}
Names type params (Err other) = ⊥

-- parts of the nodes in an order have shapes
pub record AreKnown (cells : List Cell) (order : List ℕ) (forms : Forms) : Type 0 where
  pub each_part : (place i : ℕ) (c : Cell) → slice_get order place ≡ Some i → IsCell cells i c → (j : ℕ) → Contains (cell_parts c) j →
      IsKnown forms.shapes forms.of.items j

-- or that the text is none that a schema may write as a value of it
abbrev pub NamesValue : TypeName → List ℕ → Result Datatype SchemaFault → Type 0
NamesValue type text (Ok datatype) = (datatype_of type [] ≡ Ok datatype) × MayWrite datatype text
NamesValue type text (Err (fault.Unreadable cause.UnknownType)) = datatype_of type [] ≡ Err type_fault.UnknownType
NamesValue type text (Err (fault.Unreadable cause.UnknownParam)) = datatype_of type [] ≡ Err type_fault.UnknownParam
NamesValue type text (Err (fault.Unreadable cause.BadParam)) = datatype_of type [] ≡ Err type_fault.BadParam
NamesValue type text (Err (fault.Unreadable cause.BadValue)) = (datatype : Datatype) × (datatype_of type [] ≡ Ok datatype)
    × ¬ MayWrite datatype text
NamesValue type text (Err fault.NoMemory) = Unit {0}
NamesValue type text (Err other) = ⊥

-- ---- what is taken from a type

-- the value of a node
abbrev pub value_of : List Cell → ℕ → Value
value_of cells i = value_in (slice_get cells i)

-- a node is a value
pub record IsValue (cells : List Cell) (i : ℕ) : Type 0 where
  pub type : TypeName
  pub text : List ℕ
  pub is_cell : IsCell cells i (cell.value type text)

pub record AreValues (cells : List Cell) (values : List ℕ) : Type 0 where
  pub each_is : (place i : ℕ) → slice_get values place ≡ Some i → IsValue cells i

-- the nodes of the values of a shape's form are put behind others
pub record IsListed (shapes : List Shape) (number : ℕ) (old new : List ℕ) : Type 0 where
  pub values_are : (cells : List Cell) (taken : ℕ → List Value) (values : List Value) →
      values_of (form_at cells taken shapes number) ≡ Some values → map (value_of cells) new ≡ map (value_of cells) old ++ values
  pub each_value : (cells : List Cell) (count : ℕ) → AreOfSchema cells count shapes → AreValues cells old → AreValues cells new

abbrev pub Lists : List Shape → ℕ → List ℕ → List ℕ → Result (Unit {0}) SchemaFault → Type 0
Lists shapes number old new (Ok done) = IsListed shapes number old new
Lists shapes number old new (Err fault.NoMemory) = Unit {0}
Lists shapes number old new (Err other) = ⊥

-- these are the values of the form, whatever is taken from types in it
pub record HasValues (cells : List Cell) (shapes : List Shape) (number : ℕ) (values : List Value) : Type 0 where
  pub are : (taken : ℕ → List Value) → values_of (form_at cells taken shapes number) ≡ Some values

pub record HasNoValues (cells : List Cell) (shapes : List Shape) (number : ℕ) : Type 0 where
  pub none : (taken : ℕ → List Value) → values_of (form_at cells taken shapes number) ≡ None

-- what a value takes from a type is put behind what others take
pub record IsTakenBehind (type : TypeName) (datatype : Datatype) (v : Value) (old new : List Except) : Type 0 where
  pub added : List Except
  pub grows : new ≡ old ++ added
  pub takes : AreExcepts type datatype (v ∷ []) added
  pub sound : AllByRecursion (IsSoundExcept datatype) added

abbrev pub TakesBehind : TypeName → Datatype → Value → List Except → List Except → Result (Unit {0}) SchemaFault → Type 0
TakesBehind type datatype v old new (Ok done) = IsTakenBehind type datatype v old new
TakesBehind type datatype v old new (Err (fault.Unreadable cause.UnsupportedExcept)) = (v.type ≢ type) × (v.type ≢ builtin_string)
    × (v.type ≢ builtin_token)
TakesBehind type datatype v old new (Err fault.NoMemory) = Unit {0}
TakesBehind type datatype v old new (Err other) = ⊥

-- these are taken from the type by the values of nodes
pub record AreTakenFrom (cells : List Cell) (type : TypeName) (datatype : Datatype) (values : List ℕ) (excepts : List Except) : Type 0 where
  pub takes : AreExcepts type datatype (map (value_of cells) values) excepts
  pub few : length excepts ≤ length values
  pub sound : AllByRecursion (IsSoundExcept datatype) excepts

abbrev pub TakesFrom : List Cell → TypeName → Datatype → List ℕ → Result (List Except) SchemaFault → Type 0
TakesFrom cells type datatype values (Ok excepts) = AreTakenFrom cells type datatype values excepts
TakesFrom cells type datatype values (Err (fault.Unreadable cause.UnsupportedExcept)) = IsForeign type (map (value_of cells) values)
TakesFrom cells type datatype values (Err fault.NoMemory) = Unit {0}
TakesFrom cells type datatype values (Err other) = ⊥

-- these are taken from the type by the values of a form, few, and each sound
pub record AreTakenBy (cells : List Cell) (shapes : List Shape) (type : TypeName) (datatype : Datatype) (number : ℕ)
    (excepts : List Except) : Type 0 where
  pub values : List Value
  pub has_values : HasValues cells shapes number values
  pub takes : AreExcepts type datatype values excepts
  pub allowed : length values ≤ except_limit
  pub few : length excepts ≤ except_limit
  pub sound : AllByRecursion (IsSoundExcept datatype) excepts

-- the form has too many values
pub record HasManyValues (cells : List Cell) (shapes : List Shape) (number : ℕ) : Type 0 where
  pub values : List Value
  pub has_values : HasValues cells shapes number values
  pub many : except_limit < length values

-- it is no choice of values, or has one that can't be taken from the type
pub record HasForeignValue (cells : List Cell) (shapes : List Shape) (type : TypeName) (number : ℕ) : Type 0 where
  pub values : List Value
  pub has_values : HasValues cells shapes number values
  pub foreign : IsForeign type values

abbrev pub HasUnsupported : List Cell → List Shape → TypeName → ℕ → Type 0
HasUnsupported cells shapes type number = HasNoValues cells shapes number ⊎ HasForeignValue cells shapes type number

abbrev pub Takes : List Cell → List Shape → TypeName → Datatype → ℕ → Result (List Except) SchemaFault → Type 0
Takes cells shapes type datatype number (Ok excepts) = AreTakenBy cells shapes type datatype number excepts
Takes cells shapes type datatype number (Err (fault.Unreadable cause.UnsupportedExcept)) = HasUnsupported cells shapes type number
Takes cells shapes type datatype number (Err (fault.Unreadable cause.TooManyExcepts)) = HasManyValues cells shapes number
Takes cells shapes type datatype number (Err fault.NoMemory) = Unit {0}
Takes cells shapes type datatype number (Err other) = ⊥

-- ---- types of nodes

-- the type of a value's node
pub record IsTypeOfValue (type : TypeName) (text : List ℕ) (known : Option NodeType) : Type 0 where
  pub node_type : NodeType
  pub there : known ≡ Some node_type
  pub named : datatype_of type [] ≡ Ok node_type.datatype
  pub may_write : MayWrite node_type.datatype text

-- the type of a type's node, and what is taken from it
pub record IsTypeTaken (cells : List Cell) (shapes : List Shape) (type : TypeName) (params : List Param) (number : ℕ)
    (known : Option NodeType) : Type 0 where
  pub node_type : NodeType
  pub there : known ≡ Some node_type
  pub named : datatype_of type params ≡ Ok node_type.datatype
  pub taken : AreTakenBy cells shapes type node_type.datatype number node_type.excepts

abbrev pub IsTypeOf : List Cell → Forms → Cell → Option NodeType → Type 0
IsTypeOf cells forms (cell.value type text) known = IsTypeOfValue type text known
IsTypeOf cells forms (cell.typed type params part) known = IsTypeTaken cells forms.shapes type params (slice_index forms.of.items part)
    known
IsTypeOf cells forms c known = Unit {0}

-- why a value, or a type, has no type
abbrev pub HasNoValueType : TypeName → List ℕ → Cause → Type 0
HasNoValueType type text cause.UnknownType = datatype_of type [] ≡ Err type_fault.UnknownType
HasNoValueType type text cause.UnknownParam = datatype_of type [] ≡ Err type_fault.UnknownParam
HasNoValueType type text cause.BadParam = datatype_of type [] ≡ Err type_fault.BadParam
HasNoValueType type text cause.BadValue = (datatype : Datatype) × (datatype_of type [] ≡ Ok datatype) × ¬ MayWrite datatype text
HasNoValueType type text why = ⊥

abbrev pub HasNoTypeTaken : List Cell → List Shape → TypeName → List Param → ℕ → Cause → Type 0
HasNoTypeTaken cells shapes type params number cause.UnknownType = datatype_of type params ≡ Err type_fault.UnknownType
HasNoTypeTaken cells shapes type params number cause.UnknownParam = datatype_of type params ≡ Err type_fault.UnknownParam
HasNoTypeTaken cells shapes type params number cause.BadParam = datatype_of type params ≡ Err type_fault.BadParam
HasNoTypeTaken cells shapes type params number cause.UnsupportedExcept = HasUnsupported cells shapes type number
HasNoTypeTaken cells shapes type params number cause.TooManyExcepts = HasManyValues cells shapes number
HasNoTypeTaken cells shapes type params number why = ⊥

abbrev pub HasNoType : List Cell → Forms → Cell → Cause → Type 0
HasNoType cells forms (cell.value type text) why = HasNoValueType type text why
HasNoType cells forms (cell.typed type params part) why = HasNoTypeTaken cells forms.shapes type params (slice_index forms.of.items part)
    why
HasNoType cells forms c why = ⊥

-- calls answer the type, or why there is none
abbrev pub MakesValueType : TypeName → List ℕ → Result (Option NodeType) SchemaFault → Type 0
MakesValueType type text (Ok known) = IsTypeOfValue type text known
MakesValueType type text (Err (fault.Unreadable why)) = HasNoValueType type text why
MakesValueType type text (Err fault.NoMemory) = Unit {0}
MakesValueType type text (Err other) = ⊥

abbrev pub MakesTypeTaken : List Cell → List Shape → TypeName → List Param → ℕ → Result (Option NodeType) SchemaFault → Type 0
MakesTypeTaken cells shapes type params number (Ok known) = IsTypeTaken cells shapes type params number known
MakesTypeTaken cells shapes type params number (Err (fault.Unreadable why)) = HasNoTypeTaken cells shapes type params number why
MakesTypeTaken cells shapes type params number (Err fault.NoMemory) = Unit {0}
MakesTypeTaken cells shapes type params number (Err other) = ⊥

abbrev pub MakesType : List Cell → Forms → Cell → Result (Option NodeType) SchemaFault → Type 0
MakesType cells forms (cell.value type text) result = MakesValueType type text result
MakesType cells forms (cell.typed type params part)
    result = MakesTypeTaken cells forms.shapes type params (slice_index forms.of.items part) result
MakesType cells forms c result = result ≡ Ok None

-- the type that is known of a node
abbrev pub known_at : List (Option NodeType) → ℕ → Option NodeType
known_at types i = slice_index_or types i None

-- the nodes in front of this place of the order have their types
pub record AreTypesBefore (cells : List Cell) (order : List ℕ) (end : ℕ) (forms : Forms) (types : List (Option NodeType)) : Type 0 where
  pub all : length types ≡ length cells
  pub each_is : (i : ℕ) (c : Cell) → IsBefore order end i → IsCell cells i c → IsTypeOf cells forms c (known_at types i)

-- one has no type, for this cause, and those in front of it have theirs
pub record IsFirstRefused (cells : List Cell) (order : List ℕ) (forms : Forms) (why : Cause) : Type 0 where
  pub place : ℕ
  pub node : ℕ
  pub there : slice_get order place ≡ Some node
  pub cell : Cell
  pub is_cell : IsCell cells node cell
  pub types : List (Option NodeType)
  pub before : AreTypesBefore cells order place forms types
  pub refused : HasNoType cells forms cell why

-- the type of a node is set, if it has one
pub record IsTypeSet (cells : List Cell) (forms : Forms) (i : ℕ) (old new : List (Option NodeType)) : Type 0 where
  pub length_stays : length new ≡ length old
  pub others_stay : (j : ℕ) → j ≢ i → known_at new j ≡ known_at old j
  pub is_type : (c : Cell) → IsCell cells i c → IsTypeOf cells forms c (known_at new i)

abbrev pub SetsType : List Cell → Forms → ℕ → List (Option NodeType) → List (Option NodeType) → Result (Unit {0}) SchemaFault → Type 0
SetsType cells forms i old new (Ok done) = IsTypeSet cells forms i old new
SetsType cells forms i old new (Err (fault.Unreadable why)) = (c : Cell) × IsCell cells i c × HasNoType cells forms c why
SetsType cells forms i old new (Err fault.NoMemory) = Unit {0}
SetsType cells forms i old new (Err other) = ⊥

abbrev pub MakesTypes : List Cell → List ℕ → Forms → Result (Vec (Option NodeType) Global) SchemaFault → Type 0
MakesTypes cells order forms (Ok types) = AreTypesBefore cells order (length order) forms types.items
MakesTypes cells order forms (Err (fault.Unreadable why)) = IsFirstRefused cells order forms why
MakesTypes cells order forms (Err fault.NoMemory) = Unit {0}
MakesTypes cells order forms (Err other) = ⊥
