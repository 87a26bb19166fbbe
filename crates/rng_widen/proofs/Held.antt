-- Which types and facets are held, one after another.
use Rattle.std.proofs.Common.{◌≡◌, Bool, true, false, not, is_some, refl, ap, inl, inr}
use Rattle.std.specs.Prelude.{◌&&◌, ◌||◌}
use Rattle.std.specs.List.{list_all}
use Rattle.rng_types.specs.Facets.{meets}
use Rattle.rng_types.specs.Spaces.{normalized}
use Rattle.rng_types.specs.Types.{seen_by}
use Rattle.rng_types.specs.Words.{has_form, whitespace_of}
use Rattle.rng_types.specs.declared.kind.Form.{Form}
use Rattle.rng_widen.specs.declared.facet.Facet.{Facet}
use Rattle.rng_widen.specs.declared.facet.Facet.TheVariants as facet
use Rattle.rng_widen.specs.declared.schema_type.SchemaType.{SchemaType}
use Rattle.rng_widen.specs.declared.schema_type.SchemaType.TheVariants as type
use Rattle.rng_widen.specs.Facets.{is_left_out_of}
use Rattle.rng_widen.specs.Types.{wider_type}
use Rattle.rng_widen.specs.Laws.{takes, TypesAreCheckedByHeldOnes, HeldTypesStay, HeldFacetsStay, WiderTypesAreWider, SomeFormTakesAll}

pub types_are_checked : TypesAreCheckedByHeldOnes
types_are_checked type.String = refl
types_are_checked type.NormalizedString = refl
types_are_checked type.Token = refl
types_are_checked type.AnyUri = refl
types_are_checked type.Name = refl
types_are_checked type.NcName = refl
types_are_checked type.NmToken = refl
types_are_checked type.NmTokens = refl
types_are_checked type.Id = refl
types_are_checked type.IdRef = refl
types_are_checked type.IdRefs = refl
types_are_checked type.Entity = refl
types_are_checked type.Entities = refl
types_are_checked type.HexBinary = refl
types_are_checked type.Base64Binary = refl
types_are_checked type.Language = refl
types_are_checked type.QName = refl
types_are_checked type.Notation = refl
types_are_checked type.Boolean = refl
types_are_checked type.Decimal = refl
types_are_checked type.Integer = refl
types_are_checked type.NonPositiveInteger = refl
types_are_checked type.NegativeInteger = refl
types_are_checked type.NonNegativeInteger = refl
types_are_checked type.PositiveInteger = refl
types_are_checked type.Long = refl
types_are_checked type.Int = refl
types_are_checked type.Short = refl
types_are_checked type.Byte = refl
types_are_checked type.UnsignedLong = refl
types_are_checked type.UnsignedInt = refl
types_are_checked type.UnsignedShort = refl
types_are_checked type.UnsignedByte = refl
types_are_checked type.Date = refl
types_are_checked type.Time = refl
types_are_checked type.DateTime = refl
types_are_checked type.GYear = refl
types_are_checked type.GYearMonth = refl
types_are_checked type.GMonth = refl
types_are_checked type.GDay = refl
types_are_checked type.GMonthDay = refl
types_are_checked type.Duration = refl
types_are_checked type.Float = refl
types_are_checked type.Double = refl

pub held_types_stay : HeldTypesStay
held_types_stay type.String = refl
held_types_stay type.NormalizedString = refl
held_types_stay type.Token = refl
held_types_stay type.AnyUri = refl
held_types_stay type.Name = refl
held_types_stay type.NcName = refl
held_types_stay type.NmToken = refl
held_types_stay type.NmTokens = refl
held_types_stay type.Id = refl
held_types_stay type.IdRef = refl
held_types_stay type.IdRefs = refl
held_types_stay type.Entity = refl
held_types_stay type.Entities = refl
held_types_stay type.HexBinary = refl
held_types_stay type.Base64Binary = refl
held_types_stay type.Language = refl
held_types_stay type.QName = refl
held_types_stay type.Notation = refl
held_types_stay type.Boolean = refl
held_types_stay type.Decimal = refl
held_types_stay type.Integer = refl
held_types_stay type.NonPositiveInteger = refl
held_types_stay type.NegativeInteger = refl
held_types_stay type.NonNegativeInteger = refl
held_types_stay type.PositiveInteger = refl
held_types_stay type.Long = refl
held_types_stay type.Int = refl
held_types_stay type.Short = refl
held_types_stay type.Byte = refl
held_types_stay type.UnsignedLong = refl
held_types_stay type.UnsignedInt = refl
held_types_stay type.UnsignedShort = refl
held_types_stay type.UnsignedByte = refl
held_types_stay type.Date = refl
held_types_stay type.Time = refl
held_types_stay type.DateTime = refl
held_types_stay type.GYear = refl
held_types_stay type.GYearMonth = refl
held_types_stay type.GMonth = refl
held_types_stay type.GDay = refl
held_types_stay type.GMonthDay = refl
held_types_stay type.Duration = refl
held_types_stay type.Float = refl
held_types_stay type.Double = refl

-- ---- facets

-- the facet is held, or it isn't left out of a type that is held
abbrev is_right : SchemaType → Facet → Bool
is_right named given = not (takes named given) || (not (is_left_out_of named given) || is_some (wider_type named))

front : (a b : Bool) → (a && b) ≡ true → a ≡ true
front true b h = refl
front false b h = absurd cc

behind : (a b : Bool) → (a && b) ≡ true → b ≡ true
behind true b h = h
behind false b h = absurd cc

-- a test of all facets, from the last one on
abbrev from_9 : (Facet → Bool) → Bool
from_9 p = p facet.Pattern

abbrev from_8 : (Facet → Bool) → Bool
from_8 p = p facet.FractionDigits && from_9 p

abbrev from_7 : (Facet → Bool) → Bool
from_7 p = p facet.TotalDigits && from_8 p

abbrev from_6 : (Facet → Bool) → Bool
from_6 p = p facet.MaxExclusive && from_7 p

abbrev from_5 : (Facet → Bool) → Bool
from_5 p = p facet.MinExclusive && from_6 p

abbrev from_4 : (Facet → Bool) → Bool
from_4 p = p facet.MaxInclusive && from_5 p

abbrev from_3 : (Facet → Bool) → Bool
from_3 p = p facet.MinInclusive && from_4 p

abbrev from_2 : (Facet → Bool) → Bool
from_2 p = p facet.MaxLength && from_3 p

abbrev from_1 : (Facet → Bool) → Bool
from_1 p = p facet.MinLength && from_2 p

abbrev from_0 : (Facet → Bool) → Bool
from_0 p = p facet.Length && from_1 p

at_0 : (p : Facet → Bool) → from_0 p ≡ true → from_0 p ≡ true
at_0 p h = h

at_1 : (p : Facet → Bool) → from_0 p ≡ true → from_1 p ≡ true
at_1 p h = behind (p facet.Length) (from_1 p) (at_0 p h)

at_2 : (p : Facet → Bool) → from_0 p ≡ true → from_2 p ≡ true
at_2 p h = behind (p facet.MinLength) (from_2 p) (at_1 p h)

at_3 : (p : Facet → Bool) → from_0 p ≡ true → from_3 p ≡ true
at_3 p h = behind (p facet.MaxLength) (from_3 p) (at_2 p h)

at_4 : (p : Facet → Bool) → from_0 p ≡ true → from_4 p ≡ true
at_4 p h = behind (p facet.MinInclusive) (from_4 p) (at_3 p h)

at_5 : (p : Facet → Bool) → from_0 p ≡ true → from_5 p ≡ true
at_5 p h = behind (p facet.MaxInclusive) (from_5 p) (at_4 p h)

at_6 : (p : Facet → Bool) → from_0 p ≡ true → from_6 p ≡ true
at_6 p h = behind (p facet.MinExclusive) (from_6 p) (at_5 p h)

at_7 : (p : Facet → Bool) → from_0 p ≡ true → from_7 p ≡ true
at_7 p h = behind (p facet.MaxExclusive) (from_7 p) (at_6 p h)

at_8 : (p : Facet → Bool) → from_0 p ≡ true → from_8 p ≡ true
at_8 p h = behind (p facet.TotalDigits) (from_8 p) (at_7 p h)

at_9 : (p : Facet → Bool) → from_0 p ≡ true → from_9 p ≡ true
at_9 p h = behind (p facet.FractionDigits) (from_9 p) (at_8 p h)

each : (p : Facet → Bool) → from_0 p ≡ true → (given : Facet) → p given ≡ true
each p h facet.Length = front (p facet.Length) (from_1 p) (at_0 p h)
each p h facet.MinLength = front (p facet.MinLength) (from_2 p) (at_1 p h)
each p h facet.MaxLength = front (p facet.MaxLength) (from_3 p) (at_2 p h)
each p h facet.MinInclusive = front (p facet.MinInclusive) (from_4 p) (at_3 p h)
each p h facet.MaxInclusive = front (p facet.MaxInclusive) (from_5 p) (at_4 p h)
each p h facet.MinExclusive = front (p facet.MinExclusive) (from_6 p) (at_5 p h)
each p h facet.MaxExclusive = front (p facet.MaxExclusive) (from_7 p) (at_6 p h)
each p h facet.TotalDigits = front (p facet.TotalDigits) (from_8 p) (at_7 p h)
each p h facet.FractionDigits = front (p facet.FractionDigits) (from_9 p) (at_8 p h)
each p h facet.Pattern = at_9 p h

facets_are_right : (named : SchemaType) (given : Facet) → is_right named given ≡ true
facets_are_right type.String given = each (is_right type.String) refl given
facets_are_right type.NormalizedString given = each (is_right type.NormalizedString) refl given
facets_are_right type.Token given = each (is_right type.Token) refl given
facets_are_right type.AnyUri given = each (is_right type.AnyUri) refl given
facets_are_right type.Name given = each (is_right type.Name) refl given
facets_are_right type.NcName given = each (is_right type.NcName) refl given
facets_are_right type.NmToken given = each (is_right type.NmToken) refl given
facets_are_right type.NmTokens given = each (is_right type.NmTokens) refl given
facets_are_right type.Id given = each (is_right type.Id) refl given
facets_are_right type.IdRef given = each (is_right type.IdRef) refl given
facets_are_right type.IdRefs given = each (is_right type.IdRefs) refl given
facets_are_right type.Entity given = each (is_right type.Entity) refl given
facets_are_right type.Entities given = each (is_right type.Entities) refl given
facets_are_right type.HexBinary given = each (is_right type.HexBinary) refl given
facets_are_right type.Base64Binary given = each (is_right type.Base64Binary) refl given
facets_are_right type.Language given = each (is_right type.Language) refl given
facets_are_right type.QName given = each (is_right type.QName) refl given
facets_are_right type.Notation given = each (is_right type.Notation) refl given
facets_are_right type.Boolean given = each (is_right type.Boolean) refl given
facets_are_right type.Decimal given = each (is_right type.Decimal) refl given
facets_are_right type.Integer given = each (is_right type.Integer) refl given
facets_are_right type.NonPositiveInteger given = each (is_right type.NonPositiveInteger) refl given
facets_are_right type.NegativeInteger given = each (is_right type.NegativeInteger) refl given
facets_are_right type.NonNegativeInteger given = each (is_right type.NonNegativeInteger) refl given
facets_are_right type.PositiveInteger given = each (is_right type.PositiveInteger) refl given
facets_are_right type.Long given = each (is_right type.Long) refl given
facets_are_right type.Int given = each (is_right type.Int) refl given
facets_are_right type.Short given = each (is_right type.Short) refl given
facets_are_right type.Byte given = each (is_right type.Byte) refl given
facets_are_right type.UnsignedLong given = each (is_right type.UnsignedLong) refl given
facets_are_right type.UnsignedInt given = each (is_right type.UnsignedInt) refl given
facets_are_right type.UnsignedShort given = each (is_right type.UnsignedShort) refl given
facets_are_right type.UnsignedByte given = each (is_right type.UnsignedByte) refl given
facets_are_right type.Date given = each (is_right type.Date) refl given
facets_are_right type.Time given = each (is_right type.Time) refl given
facets_are_right type.DateTime given = each (is_right type.DateTime) refl given
facets_are_right type.GYear given = each (is_right type.GYear) refl given
facets_are_right type.GYearMonth given = each (is_right type.GYearMonth) refl given
facets_are_right type.GMonth given = each (is_right type.GMonth) refl given
facets_are_right type.GDay given = each (is_right type.GDay) refl given
facets_are_right type.GMonthDay given = each (is_right type.GMonthDay) refl given
facets_are_right type.Duration given = each (is_right type.Duration) refl given
facets_are_right type.Float given = each (is_right type.Float) refl given
facets_are_right type.Double given = each (is_right type.Double) refl given

left_out : (takes left wider : Bool) → (not takes || (not left || wider)) ≡ true → left ≡ true → wider ≡ false → takes ≡ false
left_out false left wider h l w = refl
left_out true true true h l w = absurd cc
left_out true true false h l w = absurd cc
left_out true false wider h l w = absurd cc

pub held_facets_stay : HeldFacetsStay
held_facets_stay named given none left =
    left_out (takes named given) (is_left_out_of named given) (is_some (wider_type named)) (facets_are_right named given) left
    (ap is_some none)

pub wider_types_are_wider : WiderTypesAreWider
wider_types_are_wider type.String = tt
wider_types_are_wider type.NormalizedString = tt
wider_types_are_wider type.Token = tt
wider_types_are_wider type.AnyUri = tt
wider_types_are_wider type.Name = tt
wider_types_are_wider type.NcName = tt
wider_types_are_wider type.NmToken = tt
wider_types_are_wider type.NmTokens = tt
wider_types_are_wider type.Id = tt
wider_types_are_wider type.IdRef = tt
wider_types_are_wider type.IdRefs = tt
wider_types_are_wider type.Entity = inr (inl (refl, refl))
wider_types_are_wider type.Entities = inr (inr (refl, refl))
wider_types_are_wider type.HexBinary = tt
wider_types_are_wider type.Base64Binary = tt
wider_types_are_wider type.Language = tt
wider_types_are_wider type.QName = inl refl
wider_types_are_wider type.Notation = inl refl
wider_types_are_wider type.Boolean = tt
wider_types_are_wider type.Decimal = tt
wider_types_are_wider type.Integer = tt
wider_types_are_wider type.NonPositiveInteger = tt
wider_types_are_wider type.NegativeInteger = tt
wider_types_are_wider type.NonNegativeInteger = tt
wider_types_are_wider type.PositiveInteger = tt
wider_types_are_wider type.Long = tt
wider_types_are_wider type.Int = tt
wider_types_are_wider type.Short = tt
wider_types_are_wider type.Byte = tt
wider_types_are_wider type.UnsignedLong = tt
wider_types_are_wider type.UnsignedInt = tt
wider_types_are_wider type.UnsignedShort = tt
wider_types_are_wider type.UnsignedByte = tt
wider_types_are_wider type.Date = tt
wider_types_are_wider type.Time = tt
wider_types_are_wider type.DateTime = tt
wider_types_are_wider type.GYear = tt
wider_types_are_wider type.GYearMonth = tt
wider_types_are_wider type.GMonth = inl refl
wider_types_are_wider type.GDay = inl refl
wider_types_are_wider type.GMonthDay = inl refl
wider_types_are_wider type.Duration = inl refl
wider_types_are_wider type.Float = inl refl
wider_types_are_wider type.Double = inl refl

pub some_form_takes_all : SomeFormTakesAll
some_form_takes_all datatype text form none = record {
  form = ap (λ (f : Form). has_form f (normalized (whitespace_of f) text)) form;
  facets = ap (list_all (meets datatype.form (seen_by datatype text))) none;
}
