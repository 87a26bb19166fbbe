-- The facets of XML Schema's types that a schema may give (XML Schema Part 2, section 4.3), and which of them are left out.
use Rattle.std.specs.Prelude.{ℕ, Bool, true, false, ◌||◌, List, codes}
use Rattle.rng_widen.specs.declared.schema_type.SchemaType.{SchemaType}
use Rattle.rng_widen.specs.declared.schema_type.Sort.{Sort}
use Rattle.rng_widen.specs.declared.schema_type.Sort.TheVariants as sort
use Rattle.rng_widen.specs.declared.facet.Facet.{Facet}
use Rattle.rng_widen.specs.declared.facet.Facet.TheVariants as facet
use Rattle.rng_widen.specs.Types.{sort_of}

abbrev pub facet_text : Facet → List ℕ
facet_text facet.Length = codes "length"
facet_text facet.MinLength = codes "minLength"
facet_text facet.MaxLength = codes "maxLength"
facet_text facet.MinInclusive = codes "minInclusive"
facet_text facet.MaxInclusive = codes "maxInclusive"
facet_text facet.MinExclusive = codes "minExclusive"
facet_text facet.MaxExclusive = codes "maxExclusive"
facet_text facet.TotalDigits = codes "totalDigits"
facet_text facet.FractionDigits = codes "fractionDigits"
facet_text facet.Pattern = codes "pattern"

-- a length
abbrev pub is_length : Facet → Bool
is_length facet.Length = true
is_length facet.MinLength = true
is_length facet.MaxLength = true
is_length _ = false

-- a bound
abbrev pub is_bound : Facet → Bool
is_bound facet.MinInclusive = true
is_bound facet.MaxInclusive = true
is_bound facet.MinExclusive = true
is_bound facet.MaxExclusive = true
is_bound _ = false

-- a number of digits
abbrev pub is_digits : Facet → Bool
is_digits facet.TotalDigits = true
is_digits facet.FractionDigits = true
is_digits _ = false

-- a regular expression
abbrev pub is_pattern : Facet → Bool
is_pattern facet.Pattern = true
is_pattern _ = false

-- types of the sort have the facet (section 4.1.5); enumeration and white space, which all have, are no params of RELAX NG
abbrev pub is_of_sort : Sort → Facet → Bool
is_of_sort sort.Texts given = is_length given || is_pattern given
is_of_sort sort.Words given = is_length given || is_pattern given
is_of_sort sort.Truths given = is_pattern given
is_of_sort sort.Numbers given = is_bound given || (is_digits given || is_pattern given)
is_of_sort sort.Moments given = is_bound given || is_pattern given

abbrev pub has_facet : SchemaType → Facet → Bool
has_facet named given = is_of_sort (sort_of named) given

-- A facet is left out that types of the sort have, and that isn't held of the type by which they are checked. Facets that they don't have
-- stay, and so the schema is refused that gives one: what stands there in the end doesn't take it
abbrev pub is_left_out : Sort → Facet → Bool
is_left_out sort.Texts given = is_pattern given
is_left_out sort.Words given = is_length given || is_pattern given
is_left_out sort.Truths given = is_pattern given
is_left_out sort.Numbers given = is_digits given || is_pattern given
is_left_out sort.Moments given = is_bound given || is_pattern given

abbrev pub is_left_out_of : SchemaType → Facet → Bool
is_left_out_of named given = is_left_out (sort_of named) given
