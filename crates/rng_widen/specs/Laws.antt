-- Laws of what is handed on.
use Rattle.std.specs.Prelude.{◌≡◌, ◌⊎◌, ℕ, Bool, true, false, not, List, [], ◌∷◌, length, unwrap_or, is_some, Option, Some, None, IfSome, Ok, Err}
use Rattle.std.specs.Option.{option_map, option_map_or}
use Rattle.nx_host.specs.Files.{FileMap}
use Rattle.rnc_lex.specs.declared.fault.LexFault.{LexFault}
use Rattle.rnc_lex.specs.declared.fault.LexFault.TheVariants.{NoMemory}
use Rattle.rnc_lex.specs.declared.token.RncToken.{RncToken}
use Rattle.rnc_lex.specs.Tokens.{Lexes}
use Rattle.rng_types.specs.Naming.{param_relation}
use Rattle.rng_types.specs.Table.{TypeRow, type_named}
use Rattle.rng_types.specs.Types.{Accepts}
use Rattle.rng_types.specs.declared.datatype.Datatype.{Datatype}
use Rattle.rng_types.specs.declared.kind.Form.{Form}
use Rattle.rng_types.specs.declared.kind.Form.TheVariants.{Any, One, Several}
use Rattle.rng_types.specs.declared.kind.Whitespace.TheVariants.{Collapse}
use Rattle.rng_types.specs.declared.kind.Word.TheVariants as word
use Rattle.rng_widen.specs.declared.facet.Facet.{Facet}
use Rattle.rng_widen.specs.declared.schema_type.SchemaType.{SchemaType}
use Rattle.rng_widen.specs.declared.schema_type.SchemaType.TheVariants as type
use Rattle.rng_widen.specs.CompactHead.{schema_library}
use Rattle.rng_widen.specs.CompactWidenings.{widenings_of}
use Rattle.rng_widen.specs.Facets.{facet_text, is_left_out_of}
use Rattle.rng_widen.specs.Handed.{in_compact, widenings, handed, wider_files}
use Rattle.rng_widen.specs.Types.{type_text, wider_type}

-- a text in which nothing is put to something wider is handed on as it is
abbrev pub OtherTextsStay : Type 0
OtherTextsStay = (bytes : List ℕ) → widenings bytes ≡ [] → handed bytes ≡ bytes

-- what is handed on has as many bytes, so that what is said of a place in it is said of the file's own text
abbrev pub TextsKeepTheirLength : Type 0
TextsKeepTheirLength = (bytes : List ℕ) → length (handed bytes) ≡ length bytes

-- in the compact syntax what is put to something wider is told by the tokens of the text; where it isn't tokens there is nothing
abbrev pub TokensTell : Type 0
TokensTell = (text : List ℕ) (tokens : List RncToken) → Lexes text (Ok tokens) → in_compact text ≡ widenings_of (length text) tokens

abbrev pub FaultsTellNothing : Type 0
FaultsTellNothing = (text : List ℕ) (fault : LexFault) → (fault ≡ NoMemory → ⊥) → Lexes text (Err fault) → in_compact text ≡ []

-- what the files themselves hold stands in the map of what they hand on
abbrev pub own_files : Option FileMap → Option FileMap
own_files told = option_map (λ (files : FileMap) key. files (128 ∷ key)) told

-- so files that hand on the same hold the same
abbrev pub FilesTellTheirs : Type 0
FilesTellTheirs = (strict : Bool) (told : Option FileMap) → own_files (wider_files strict told) ≡ told

-- ---- which types and facets are held

-- the type of the library that is held under the name
abbrev pub held_as : SchemaType → Option TypeRow
held_as named = type_named schema_library (type_text named)

-- the type by which this one is checked
abbrev pub checked_as : SchemaType → SchemaType
checked_as named = unwrap_or (wider_type named) named

-- each type is checked by one that is held
abbrev pub TypesAreCheckedByHeldOnes : Type 0
TypesAreCheckedByHeldOnes = (named : SchemaType) → is_some (held_as (checked_as named)) ≡ true

-- and by another only where it isn't held itself
abbrev pub HeldTypesStay : Type 0
HeldTypesStay = (named : SchemaType) → is_some (wider_type named) ≡ not (is_some (held_as named))

-- a held type has the form
abbrev pub HasForm : SchemaType → Form → Type 0
HasForm named form = option_map (λ (row : TypeRow). row.form) (held_as named) ≡ Some form

-- the type by which this one is checked takes every text; but for ENTITY, whose texts are names without a colon (3.3.11), and ENTITIES,
-- whose texts are lists of such names (3.3.12): these are checked by what has just these texts
abbrev pub IsWiderThan : SchemaType → SchemaType → Type 0
IsWiderThan named wider =
    HasForm wider (Any Collapse)
    ⊎ (named ≡ type.Entity) × HasForm wider (One word.NcName)
    ⊎ (named ≡ type.Entities) × HasForm wider (Several word.NcName)

abbrev pub WiderTypesAreWider : Type 0
WiderTypesAreWider = (named : SchemaType) → IfSome (wider_type named) (IsWiderThan named)

-- a type of that form on which there is no facet accepts every text
abbrev pub SomeFormTakesAll : Type 0
SomeFormTakesAll = (datatype : Datatype) (text : List ℕ) → datatype.form ≡ Any Collapse → datatype.facets ≡ [] → Accepts datatype text

-- a held type takes the facet
abbrev pub takes : SchemaType → Facet → Bool
takes named facet = option_map_or (λ (row : TypeRow). is_some (param_relation row.takes (facet_text facet))) (held_as named) false

-- of a type that is held no facet is left out that it takes
abbrev pub HeldFacetsStay : Type 0
HeldFacetsStay = (named : SchemaType) (facet : Facet) → wider_type named ≡ None → is_left_out_of named facet ≡ true → takes named facet ≡ false
