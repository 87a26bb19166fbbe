-- Types by their names, and patterns in which they stand: ISO/IEC 19757-2, sections 7.17 and 8.
use Rattle.std.specs.Prelude.{◌≡◌, ◌≢◌, ℕ, List, [], ◌∷◌, codes, IsTrue, Result, Ok}
use Rattle.nx_base.specs.Characters.{is_of_chars}
use Rattle.rng_types.specs.declared.datatype.Datatype.{Datatype}
use Rattle.rng_types.specs.declared.datatype.Except.{Except}
use Rattle.rng_types.specs.declared.datatype.Except.TheVariants.{Own, BuiltinString, BuiltinToken}
use Rattle.rng_types.specs.declared.datatype.Param.{Param as TypeParam}
use Rattle.rng_types.specs.declared.fault.TypeFault.{TypeFault}
use Rattle.rng_types.specs.Types.{Accepts, seen_by, has_few_digits}
use Rattle.rng_types.specs.Naming.{type_of}
use Rattle.rnc_parse.specs.declared.surface.TypeName.{TypeName}
use Rattle.rnc_parse.specs.declared.surface.Param.{Param}
use Rattle.rng_core.specs.Names.{Class}
use Rattle.rng_core.specs.Patterns.{Pattern, Definition}
use Rattle.rng_core.specs.Patterns as pattern
use Rattle.rng_simplify.specs.Forms.{Form, FormDefinition, Value}
use Rattle.rng_simplify.specs.Forms as form

-- a param of a schema as one of a type
abbrev pub params_of : List Param → List TypeParam
params_of [] = []
params_of (param ∷ more) = record { name = param.name; value = param.value } ∷ params_of more

-- what a name and params stand for, or why for nothing
abbrev pub datatype_of : TypeName → List Param → Result Datatype TypeFault
datatype_of type params = type_of type.library type.name (params_of params)

-- a schema may write the text as a value of the type: it accepts it, its digits are few, its characters are those of XML
pub record MayWrite (datatype : Datatype) (text : List ℕ) : Type 0 where
  pub accepted : Accepts datatype text
  pub few_digits : IsTrue (has_few_digits datatype.form (seen_by datatype text))
  pub of_chars : IsTrue (is_of_chars text)

-- the built-in types
abbrev pub builtin_string : TypeName
builtin_string = record { library = []; name = codes "string" }

abbrev pub builtin_token : TypeName
builtin_token = record { library = []; name = codes "token" }

-- what values of this type, or of a built-in one, take from the type with its params: one of its own that it doesn't accept
-- takes nothing away
pub data AreExcepts (type : TypeName) (datatype : Datatype) : List Value → List Except → Type 0 where
  no_except : AreExcepts type datatype [] []
  own_value : {text : List ℕ} {values : List Value} {excepts : List Except} → Accepts datatype text →
      AreExcepts type datatype values excepts → AreExcepts type datatype (record { type = type; text = text } ∷ values) (Own text ∷ excepts)
  own_value_beside : {text : List ℕ} {values : List Value} {excepts : List Except} → ¬ Accepts datatype text →
      AreExcepts type datatype values excepts → AreExcepts type datatype (record { type = type; text = text } ∷ values) excepts
  string_value : {text : List ℕ} {values : List Value} {excepts : List Except} → type ≢ builtin_string →
      AreExcepts type datatype values excepts → AreExcepts type datatype (record { type = builtin_string; text = text } ∷ values)
      (BuiltinString text ∷ excepts)
  token_value : {text : List ℕ} {values : List Value} {excepts : List Except} → type ≢ builtin_token →
      AreExcepts type datatype values excepts → AreExcepts type datatype (record { type = builtin_token; text = text } ∷ values)
      (BuiltinToken text ∷ excepts)

-- a form with its types
pub data Typed : Form → Pattern → Type 0 where
  typed_not_allowed : Typed form.not_allowed pattern.not_allowed
  typed_empty : Typed form.empty pattern.empty
  typed_text : Typed form.any_text pattern.any_text
  typed_value : {v : Value} {datatype : Datatype} → datatype_of v.type [] ≡ Ok datatype →
      Typed (form.value v) (pattern.literal datatype v.text)
  typed_type : {type : TypeName} {params : List Param} {values : List Value} {datatype : Datatype} {excepts : List Except} →
      datatype_of type params ≡ Ok datatype → AreExcepts type datatype values excepts →
      Typed (form.typed type params values) (pattern.typed datatype excepts)
  typed_list : {p : Form} {q : Pattern} → Typed p q → Typed (form.listed p) (pattern.listed q)
  typed_attribute : {class : Class} {p : Form} {q : Pattern} → Typed p q → Typed (form.attribute class p) (pattern.attribute class q)
  typed_ref : {number : ℕ} → Typed (form.ref number) (pattern.ref number)
  typed_one_or_more : {p : Form} {q : Pattern} → Typed p q → Typed (form.one_or_more p) (pattern.one_or_more q)
  typed_choice : {p1 p2 : Form} {q1 q2 : Pattern} → Typed p1 q1 → Typed p2 q2 → Typed (form.choice p1 p2) (pattern.choice q1 q2)
  typed_group : {p1 p2 : Form} {q1 q2 : Pattern} → Typed p1 q1 → Typed p2 q2 → Typed (form.group p1 p2) (pattern.group q1 q2)
  typed_interleave : {p1 p2 : Form} {q1 q2 : Pattern} → Typed p1 q1 → Typed p2 q2 → Typed (form.interleave p1 p2) (pattern.interleave q1 q2)

pub data AreTyped : List FormDefinition → List Definition → Type 0 where
  none_typed : AreTyped [] []
  next_typed : {class : Class} {p : Form} {q : Pattern} {ps : List FormDefinition} {qs : List Definition} → Typed p q → AreTyped ps qs →
      AreTyped (record { class = class; content = p } ∷ ps) (record { class = class; content = q } ∷ qs)
