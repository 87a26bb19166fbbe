-- How the program finds a type and a facet by its name. The names are those of Types and Facets.
use Rattle.std.specs.Prelude.{ℕ, ◌-◌, List, [], ◌∷◌, length, take, drop, Option}
use Rattle.std.specs.Char.{is_ascii_whitespace}
use Rattle.std.specs.List.{find, prefix_len, suffix_len}
use Rattle.std.specs.Str.{bytes_eq}
use Rattle.rng_widen.specs.declared.schema_type.SchemaType.{SchemaType}
use Rattle.rng_widen.specs.declared.schema_type.SchemaType.TheVariants as type
use Rattle.rng_widen.specs.declared.facet.Facet.{Facet}
use Rattle.rng_widen.specs.declared.facet.Facet.TheVariants as facet
use Rattle.rng_widen.specs.Types.{type_text}
use Rattle.rng_widen.specs.Facets.{facet_text}

-- a name without the white space around it; a form feed, which is none of XML's, stands in no text of XML
unfoldable pub trimmed : List ℕ → List ℕ
trimmed text =
    let begun = drop (prefix_len is_ascii_whitespace text) text in
    take (length begun - suffix_len is_ascii_whitespace begun) begun

abbrev pub types : List SchemaType
types =
    type.String ∷ type.NormalizedString ∷ type.Token ∷ type.AnyUri ∷ type.Name
    ∷ type.NcName ∷ type.NmToken ∷ type.NmTokens ∷ type.Id ∷ type.IdRef
    ∷ type.IdRefs ∷ type.Entity ∷ type.Entities ∷ type.HexBinary ∷ type.Base64Binary
    ∷ type.Language ∷ type.QName ∷ type.Notation ∷ type.Boolean ∷ type.Decimal
    ∷ type.Integer ∷ type.NonPositiveInteger ∷ type.NegativeInteger ∷ type.NonNegativeInteger ∷ type.PositiveInteger
    ∷ type.Long ∷ type.Int ∷ type.Short ∷ type.Byte ∷ type.UnsignedLong
    ∷ type.UnsignedInt ∷ type.UnsignedShort ∷ type.UnsignedByte ∷ type.Date ∷ type.Time
    ∷ type.DateTime ∷ type.GYear ∷ type.GYearMonth ∷ type.GMonth ∷ type.GDay
    ∷ type.GMonthDay ∷ type.Duration ∷ type.Float ∷ type.Double ∷ []

-- the type of this name
unfoldable pub type_named : List ℕ → Option SchemaType
type_named local = find (λ named. bytes_eq (type_text named) local) types

abbrev pub facets : List Facet
facets =
    facet.Length ∷ facet.MinLength ∷ facet.MaxLength ∷ facet.MinInclusive ∷ facet.MaxInclusive
    ∷ facet.MinExclusive ∷ facet.MaxExclusive ∷ facet.TotalDigits ∷ facet.FractionDigits ∷ facet.Pattern ∷ []

-- the facet of this name
unfoldable pub facet_named : List ℕ → Option Facet
facet_named local = find (λ named. bytes_eq (facet_text named) local) facets
