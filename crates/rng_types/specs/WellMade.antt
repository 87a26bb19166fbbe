-- Types as the tables and their params make them, and excepts that belong to them.
use Rattle.std.specs.Prelude.{Bool, true, false, ◌&&◌}
use Rattle.std.specs.List.{list_all}
use Rattle.std.specs.Str.{is_utf8}
use Rattle.rng_more_types.specs.Laws.{is_octets}
use Rattle.rng_types.specs.Numbers.{is_decimal, is_integer}
use Rattle.rng_types.specs.Answers.{is_accepted}
use Rattle.rng_types.specs.declared.kind.Word.{Word}
use Rattle.rng_types.specs.declared.kind.Word.TheVariants.{Name, NcName, NmToken, Language, Boolean, Decimal, Integer}
use Rattle.rng_types.specs.declared.kind.Form.{Form}
use Rattle.rng_types.specs.declared.kind.Form.TheVariants.{Any, One, Several, More}
use Rattle.rng_types.specs.declared.facet.Facet.{Facet}
use Rattle.rng_types.specs.declared.facet.Facet.TheVariants.{Length, Bound}
use Rattle.rng_types.specs.declared.datatype.Datatype.{Datatype}
use Rattle.rng_types.specs.declared.datatype.Except.{Except}
use Rattle.rng_types.specs.declared.datatype.Except.TheVariants.{Own, BuiltinString, BuiltinToken}

-- the facet is one that a type of the form may have
abbrev pub suits_word : Word → Facet → Bool
suits_word Name (Length relation limit) = true
suits_word NcName (Length relation limit) = true
suits_word NmToken (Length relation limit) = true
suits_word Language (Length relation limit) = false
suits_word Boolean (Length relation limit) = false
suits_word Decimal (Length relation limit) = false
suits_word Integer (Length relation limit) = false
suits_word Name (Bound relation limit) = false
suits_word NcName (Bound relation limit) = false
suits_word NmToken (Bound relation limit) = false
suits_word Language (Bound relation limit) = false
suits_word Boolean (Bound relation limit) = false
suits_word Decimal (Bound relation limit) = is_decimal limit
suits_word Integer (Bound relation limit) = is_integer limit

abbrev pub suits : Form → Facet → Bool
suits (Any whitespace) (Length relation limit) = true
suits (Any whitespace) (Bound relation limit) = false
suits (One word) facet = suits_word word facet
suits (Several word) (Length relation limit) = true
suits (Several word) (Bound relation limit) = false
suits (More more) (Length relation limit) = is_octets more
suits (More more) (Bound relation limit) = false

-- the form is one that a type may have: several words are names or tokens of such characters
abbrev pub is_list_word : Word → Bool
is_list_word Name = true
is_list_word NcName = true
is_list_word NmToken = true
is_list_word Language = false
is_list_word Boolean = false
is_list_word Decimal = false
is_list_word Integer = false

abbrev pub is_form : Form → Bool
is_form (Any whitespace) = true
is_form (One word) = true
is_form (Several word) = is_list_word word
is_form (More more) = true

-- a type as the tables and their params make it
abbrev pub is_well_made : Datatype → Bool
is_well_made type = is_form type.form && list_all (suits type.form) type.facets

-- an except of the type's own values is a text of the type
abbrev pub is_sound_except : Datatype → Except → Bool
is_sound_except type (Own literal) = is_utf8 literal && is_accepted type literal
is_sound_except type (BuiltinString literal) = true
is_sound_except type (BuiltinToken literal) = true
