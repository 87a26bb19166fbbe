-- Why the files of a schema make no grammar, by one definition for each cause.
use Rattle.std.specs.Prelude.{◌≡◌, ◌≢◌, ℕ, ◌+◌, ◌<◌, ◌⊎◌, nat_lt, Bool, true, false, ◌&&◌, ◌||◌, List, [], ◌∷◌, length}
use Rattle.std.specs.Prelude.{filter, sum_by, slice_get, Some, None, Ok, Err, Contains, IsUtf8}
use Rattle.std.specs.List.{list_any}
use Rattle.nx_base.specs.declared.cause.Cause.{Cause}
use Rattle.nx_base.specs.declared.cause.Cause.TheVariants as cause
use Rattle.nx_host.specs.Files.{FileMap}
use Rattle.nx_host.specs.Uri.{Joins, IsBadUri}
use Rattle.nx_host.specs.Utf8.{StopsBeingText}
use Rattle.rng_types.specs.declared.datatype.Datatype.{Datatype}
use Rattle.rng_types.specs.declared.fault.TypeFault.{TypeFault}
use Rattle.rng_types.specs.declared.fault.TypeFault.TheVariants as fault
use Rattle.rnc_parse.specs.declared.surface.TypeName.{TypeName}
use Rattle.rnc_parse.specs.declared.surface.FileReference.{FileReference}
use Rattle.rnc_parse.specs.declared.surface.Defined.{Defined}
use Rattle.rnc_parse.specs.declared.surface.Defined.TheVariants as defined
use Rattle.rnc_parse.specs.declared.surface.Combine.{Combine}
use Rattle.rnc_parse.specs.declared.surface.Combine.TheVariants as combine
use Rattle.rnc_parse.specs.Written.{WrittenItems, WrittenReplacements, WrittenSurface}
use Rattle.rngx_read.specs.Files.{RefusesFile}
use Rattle.rng_simplify.specs.Classes.{has_bad_except, names_declarations, names_declarations_of_attribute}
use Rattle.rng_simplify.specs.Composed.{Composed, Clauses, defines, defining, combines, numbers}
use Rattle.rng_simplify.specs.Composed as composed
use Rattle.rng_simplify.specs.ComposedFiles.{Context, Opens, grammar_items, Gathers, ComposesSchema}
use Rattle.rng_simplify.specs.Datatypes.{datatype_of, MayWrite, builtin_string, builtin_token}
use Rattle.rng_simplify.specs.Forms.{Form, FormDefinition, Value, values_of, nodes, depth}
use Rattle.rng_simplify.specs.Places.{place, Occurs, LeadsOn}
use Rattle.rng_simplify.specs.References.{Mention, an_include, reference_of, names_anew, Reached, Mentions}
use Rattle.rng_simplify.specs.Simple.{Simple}
use Rattle.rng_simplify.specs.Whole.{IsForm}

-- ---- of the files that are reached

-- nothing is under the URI of one
pub record IsAbsent (files : FileMap) (uri absent : List ℕ) : Type 0 where
  pub context : Context
  pub reached : Reached files uri context
  pub uri_is : absent ≡ context.uri
  pub nothing_there : files absent ≡ None

-- one isn't UTF-8: its bytes stop being text there
pub record IsNoText (files : FileMap) (uri wrong : List ℕ) (at : ℕ) : Type 0 where
  pub context : Context
  pub reached : Reached files uri context
  pub uri_is : wrong ≡ context.uri
  pub bytes : List ℕ
  pub there : files wrong ≡ Some bytes
  pub no_text : ¬ IsUtf8 bytes
  pub stops : StopsBeingText bytes at

-- one refers to another by a text that is no URI
pub record HasBadUri (files : FileMap) (uri text : List ℕ) : Type 0 where
  pub context : Context
  pub mention : Mention
  pub mentioned : Mentions files uri context mention
  pub text_is : text ≡ (reference_of mention).uri
  pub bad : IsBadUri context.uri text

-- one is no schema file
pub record IsRefused (files : FileMap) (uri : List ℕ) (why : Cause) : Type 0 where
  pub context : Context
  pub reached : Reached files uri context
  pub bytes : List ℕ
  pub there : files context.uri ≡ Some bytes
  pub is_text : IsUtf8 bytes
  pub refused : RefusesFile bytes why

-- one refers to a file that leads to it
pub record HasIncludeLoop (files : FileMap) (uri : List ℕ) : Type 0 where
  pub context : Context
  pub mention : Mention
  pub mentioned : Mentions files uri context mention
  pub other : List ℕ
  pub refers : Joins context.uri (reference_of mention).uri other
  pub leads_here : Contains context.chain other

-- one includes a file that is no grammar
pub record IncludesOther (files : FileMap) (uri : List ℕ) : Type 0 where
  pub context : Context
  pub reference : FileReference
  pub replacements : WrittenReplacements
  pub mentioned : Mentions files uri context (an_include reference replacements)
  pub inner : Context
  pub surface : WrittenSurface
  pub opens : Opens files context reference inner surface
  pub no_grammar : grammar_items surface ≡ None

-- one includes a grammar and defines anew what it doesn't define
pub record ReplacesNothing (files : FileMap) (uri : List ℕ) : Type 0 where
  pub context : Context
  pub reference : FileReference
  pub replacements : WrittenReplacements
  pub mentioned : Mentions files uri context (an_include reference replacements)
  pub inner : Context
  pub surface : WrittenSurface
  pub opens : Opens files context reference inner surface
  pub items : WrittenItems
  pub items_are : grammar_items surface ≡ Some items
  pub clauses : Clauses
  pub gathered : Gathers files inner items clauses
  pub name : Defined
  pub anew : Contains (names_anew replacements) name
  pub undefined : defines name clauses ≡ false

-- ---- of the schema in one piece

-- something of this kind stands in it
pub record Has (whole : Composed) (kind : List Clauses → Composed → Type 0) : Type 0 where
  pub scopes : List Clauses
  pub pattern : Composed
  pub occurs : Occurs whole (place scopes pattern)
  pub is : kind scopes pattern

-- a reference to what its grammar, or the one around that, doesn't define, or where there is no such grammar: 7.19
abbrev pub IsUndefined : List Clauses → Composed → Type 0
IsUndefined [] (composed.ref name) = Unit {0}
IsUndefined (scope ∷ outer) (composed.ref name) = defines (defined.Name name) scope ≡ false
IsUndefined [] (composed.parent_ref name) = Unit {0}
IsUndefined (inner ∷ []) (composed.parent_ref name) = Unit {0}
IsUndefined (inner ∷ scope ∷ outer) (composed.parent_ref name) = defines (defined.Name name) scope ≡ false
IsUndefined scopes p = ⊥

-- a grammar without a start: 7.19
abbrev pub HasNoStart : List Clauses → Composed → Type 0
HasNoStart scopes (composed.grammar clauses) = defines defined.Start clauses ≡ false
HasNoStart scopes p = ⊥

abbrev pub is_alone : Combine → Bool
is_alone combine.Alone = true
is_alone combine.Choice = false
is_alone combine.Interleave = false

abbrev pub is_choice : Combine → Bool
is_choice combine.Alone = false
is_choice combine.Choice = true
is_choice combine.Interleave = false

abbrev pub is_interleave : Combine → Bool
is_interleave combine.Alone = false
is_interleave combine.Choice = false
is_interleave combine.Interleave = true

-- two say nothing of how definitions of one name are combined, or two say it in two ways: 7.18
abbrev pub clash : List Combine → Bool
clash all = nat_lt 1 (length (filter is_alone all)) || (list_any is_choice all && list_any is_interleave all)

-- a grammar with such definitions
abbrev pub HasClash : List Clauses → Composed → Type 0
HasClash scopes (composed.grammar clauses) = (name : Defined) × (clash (combines (defining name clauses)) ≡ true)
HasClash scopes p = ⊥

-- a pattern of which its own simple form would be a part: 7.20
abbrev pub LeadsBack : List Clauses → Composed → Type 0
LeadsBack scopes p = LeadsOn (place scopes p) (place scopes p)

-- a wildcard taken from a wildcard, in the class of an element or an attribute: 7.17
abbrev pub HasBadExcept : List Clauses → Composed → Type 0
HasBadExcept scopes (composed.element number class p) = has_bad_except class ≡ true
HasBadExcept scopes (composed.attribute class p) = has_bad_except class ≡ true
HasBadExcept scopes p = ⊥

-- names of namespace declarations in the class of either: 7.17
abbrev pub HasXmlnsName : List Clauses → Composed → Type 0
HasXmlnsName scopes (composed.element number class p) = names_declarations class ≡ true
HasXmlnsName scopes (composed.attribute class p) = names_declarations_of_attribute class ≡ true
HasXmlnsName scopes p = ⊥

-- a type that is refused: 7.17
abbrev pub HasRefusedType : TypeFault → List Clauses → Composed → Type 0
HasRefusedType why scopes (composed.value type text) = datatype_of type [] ≡ Err why
HasRefusedType why scopes (composed.typed type params except) = datatype_of type params ≡ Err why
HasRefusedType why scopes p = ⊥

-- a literal that isn't in its type: 7.17
abbrev pub IsBadValue : List Clauses → Composed → Type 0
IsBadValue scopes (composed.value type text) = (datatype : Datatype) × (datatype_of type [] ≡ Ok datatype) × ¬ MayWrite datatype text
IsBadValue scopes p = ⊥

-- a value that can't be taken from the type: it is neither of the type itself nor of a built-in one
pub record IsForeign (type : TypeName) (values : List Value) : Type 0 where
  pub v : Value
  pub among : Contains values v
  pub not_own : v.type ≢ type
  pub not_string : v.type ≢ builtin_string
  pub not_token : v.type ≢ builtin_token

-- what is taken from a type is no choice of values, or has such a value
abbrev pub IsUnsupported : List Clauses → Composed → Type 0
IsUnsupported scopes (composed.typed type params except) =
    (q : Form) × Simple scopes except q × ((values_of q ≡ None) ⊎ ((values : List Value) × (values_of q ≡ Some values)
    × IsForeign type values))
IsUnsupported scopes p = ⊥

-- the most values that may be taken from a type
abbrev pub except_limit : ℕ
except_limit = 128

abbrev pub HasTooManyExcepts : List Clauses → Composed → Type 0
HasTooManyExcepts scopes (composed.typed type params except) =
    (q : Form) × (values : List Value) × Simple scopes except q × (values_of q ≡ Some values) × (except_limit < length values)
HasTooManyExcepts scopes p = ⊥

-- the most nodes that a grammar may have, and that a path of one of its patterns may have
abbrev pub node_limit : ℕ
node_limit = 1_000_000

abbrev pub depth_limit : ℕ
depth_limit = 8_000

abbrev pub nodes_of_all : Form → List FormDefinition → ℕ
nodes_of_all start definitions = nodes start + sum_by (λ (definition : FormDefinition). nodes definition.content) definitions

-- some pattern of the grammar has a longer path
abbrev pub IsTooDeep : Form → List FormDefinition → Type 0
IsTooDeep start definitions =
    (depth_limit < depth start)
    ⊎ ((number : ℕ) × (definition : FormDefinition) × (slice_get definitions number ≡ Some definition)
    × (depth_limit < depth definition.content))

-- the simple form is beyond a limit
pub record IsTooLarge (whole : Composed) : Type 0 where
  pub start : Form
  pub definitions : List FormDefinition
  pub form : IsForm whole start definitions
  pub large : (node_limit < nodes_of_all start definitions) ⊎ IsTooDeep start definitions

-- causes of a schema in one piece
abbrev pub WholeIsBroken : Composed → Cause → Type 0
WholeIsBroken whole cause.NoDefinition = Has whole IsUndefined
WholeIsBroken whole cause.NoStart = Has whole HasNoStart
WholeIsBroken whole cause.CombineClash = Has whole HasClash
WholeIsBroken whole cause.RefLoop = Has whole LeadsBack
WholeIsBroken whole cause.BadExcept = Has whole HasBadExcept
WholeIsBroken whole cause.XmlnsName = Has whole HasXmlnsName
WholeIsBroken whole cause.UnknownType = Has whole (HasRefusedType fault.UnknownType)
WholeIsBroken whole cause.UnknownParam = Has whole (HasRefusedType fault.UnknownParam)
WholeIsBroken whole cause.BadParam = Has whole (HasRefusedType fault.BadParam)
WholeIsBroken whole cause.BadValue = Has whole IsBadValue
WholeIsBroken whole cause.TooManyExcepts = Has whole HasTooManyExcepts
WholeIsBroken whole cause.UnsupportedExcept = Has whole IsUnsupported
WholeIsBroken whole cause.TooLarge = IsTooLarge whole
WholeIsBroken whole why = ⊥

-- the files make one piece, which is broken so
pub record PieceIsBroken (files : FileMap) (uri : List ℕ) (why : Cause) : Type 0 where
  pub whole : Composed
  pub composed : ComposesSchema files uri whole
  pub broken : WholeIsBroken whole why

-- the files that are reached from the URI make no grammar, for this cause
abbrev pub IsBroken : FileMap → List ℕ → Cause → Type 0
IsBroken files uri cause.BadEscape = IsRefused files uri cause.BadEscape
IsBroken files uri cause.BadLiteral = IsRefused files uri cause.BadLiteral
IsBroken files uri cause.BadCharacter = IsRefused files uri cause.BadCharacter
IsBroken files uri cause.Syntax = IsRefused files uri cause.Syntax
IsBroken files uri cause.TooDeep = IsRefused files uri cause.TooDeep
IsBroken files uri cause.UndeclaredPrefix = IsRefused files uri cause.UndeclaredPrefix
IsBroken files uri cause.Twice = IsRefused files uri cause.Twice
IsBroken files uri cause.BadMarkup = IsRefused files uri cause.BadMarkup
IsBroken files uri cause.BadForm = IsRefused files uri cause.BadForm
IsBroken files uri cause.NotGrammar = IncludesOther files uri
IsBroken files uri cause.IncludeLoop = HasIncludeLoop files uri
IsBroken files uri cause.NoDefinition = ReplacesNothing files uri ⊎ PieceIsBroken files uri cause.NoDefinition
IsBroken files uri why = PieceIsBroken files uri why
