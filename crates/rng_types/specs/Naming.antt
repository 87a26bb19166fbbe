-- What a type's name and its params stand for, and when they are refused.
use Rattle.std.specs.Prelude.{◌≡◌, ℕ, Bool, false, nat_le, ◌&&◌, if◌then◌else◌, List, [], ◌∷◌, ◌++◌, length, codes}
use Rattle.std.specs.Prelude.{Option, Some, None, is_some, Result, Ok, Err}
use Rattle.std.specs.List.{list_all, filter_map}
use Rattle.std.specs.Option.{option_and_then}
use Rattle.std.specs.Str.{bytes_eq, is_utf8}
use Rattle.std.specs.Str.Parse.{digits_value}
use Rattle.rng_types.specs.Spaces.{is_some_text, collapsed}
use Rattle.rng_types.specs.Numbers.{is_digits, has_few_digits}
use Rattle.rng_types.specs.Words.{is_word}
use Rattle.rng_types.specs.Table.{TypeRow, type_named}
use Rattle.rng_types.specs.declared.kind.Form.{Form}
use Rattle.rng_types.specs.declared.kind.Form.TheVariants.{Any, One, Several, More}
use Rattle.rng_types.specs.declared.kind.Takes.{Takes}
use Rattle.rng_types.specs.declared.kind.Takes.TheVariants.{Nothing, Lengths, Bounds}
use Rattle.rng_types.specs.declared.facet.Relation.{Relation}
use Rattle.rng_types.specs.declared.facet.Relation.TheVariants.{Exactly, AtLeast, AtMost, Above, Below}
use Rattle.rng_types.specs.declared.facet.Facet.{Facet}
use Rattle.rng_types.specs.declared.facet.Facet.TheVariants.{Length, Bound}
use Rattle.rng_types.specs.declared.datatype.Datatype.{Datatype}
use Rattle.rng_types.specs.declared.datatype.Param.{Param}
use Rattle.rng_types.specs.declared.fault.TypeFault.{TypeFault}
use Rattle.rng_types.specs.declared.fault.TypeFault.TheVariants.{UnknownType, UnknownParam, BadParam, NoMemory}

-- the names of the facets on lengths, and of those on numbers
abbrev pub length_relation : List ℕ → Option Relation
length_relation name =
    if bytes_eq name (codes "length") then Some Exactly
    else (if bytes_eq name (codes "minLength") then Some AtLeast
    else (if bytes_eq name (codes "maxLength") then Some AtMost
    else None))

abbrev pub bound_relation : List ℕ → Option Relation
bound_relation name =
    if bytes_eq name (codes "minInclusive") then Some AtLeast
    else (if bytes_eq name (codes "maxInclusive") then Some AtMost
    else (if bytes_eq name (codes "minExclusive") then Some Above
    else (if bytes_eq name (codes "maxExclusive") then Some Below
    else None)))

-- what a param's name says of a type that takes these facets
abbrev pub param_relation : Takes → List ℕ → Option Relation
param_relation Nothing name = None
param_relation Lengths name = length_relation name
param_relation Bounds name = bound_relation name

-- a length: one to nine digits
abbrev pub is_length : List ℕ → Bool
is_length value = is_digits value && nat_le (length value) 9

-- a bound: after collapsing, a literal of the type's form with at most 30 digits that matter
abbrev pub is_bound : Form → List ℕ → Bool
is_bound (Any whitespace) value = false
is_bound (One word) value = is_utf8 value && (is_word word (collapsed value) && has_few_digits (collapsed value))
is_bound (Several word) value = false
is_bound (More more) value = false

-- the facet with that relation and value on a type, if the value is a literal for it
abbrev pub facet_with : Takes → Form → Relation → List ℕ → Option Facet
facet_with Nothing form relation value = None
facet_with Lengths form relation value = if is_length value then Some (Length relation (digits_value 10 value)) else None
facet_with Bounds form relation value = if is_bound form value then Some (Bound relation (collapsed value)) else None

-- the facet of a param on a type
abbrev pub facet_of : TypeRow → Param → Option Facet
facet_of row param =
    option_and_then (λ relation. facet_with row.takes row.form relation param.value) (param_relation row.takes param.name)

-- the param is one that the type takes
abbrev pub is_taken : TypeRow → Param → Bool
is_taken row param = is_some (param_relation row.takes param.name)

-- and its value is a literal for it
abbrev pub is_literal : TypeRow → Param → Bool
is_literal row param = is_some (facet_of row param)

-- an end of the type's own range, if it has one
abbrev pub range_end : Relation → List ℕ → List Facet
range_end relation literal = if is_some_text literal then Bound relation literal ∷ [] else []

abbrev pub range_of : TypeRow → List Facet
range_of row = range_end AtLeast row.low ++ range_end AtMost row.high

-- the type of a row with these params: all of them hold
abbrev pub type_with : TypeRow → List Param → Datatype
type_with row params = record { form = row.form; facets = range_of row ++ filter_map (facet_of row) params }

-- the same, or the first refusal that applies: a param that the type doesn't take, a value of another form
abbrev pub type_of_row : TypeRow → List Param → Result Datatype TypeFault
type_of_row row params =
    if list_all (is_taken row) params then
    (if list_all (is_literal row) params then Ok (type_with row params) else Err BadParam)
    else Err UnknownParam

abbrev pub type_of_found : Option TypeRow → List Param → Result Datatype TypeFault
type_of_found None params = Err UnknownType
type_of_found (Some row) params = type_of_row row params

-- what a library's URI, a name and params stand for
abbrev pub type_of : List ℕ → List ℕ → List Param → Result Datatype TypeFault
type_of library name params = type_of_found (type_named library name) params

-- the answer is this one, but where there was no memory
abbrev pub IsUnlessMemory : Result Datatype TypeFault → Result Datatype TypeFault → Type 0
IsUnlessMemory result expected = (result ≡ Err NoMemory → ⊥) → result ≡ expected
