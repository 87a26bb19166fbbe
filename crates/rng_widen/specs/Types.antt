-- The types of XML Schema's library (XML Schema Part 2, sections 3.2 and 3.3): how they are named, by which others they are checked, and
-- which facets they have.
use Rattle.std.specs.Prelude.{ℕ, List, codes, Option, Some, None}
use Rattle.rng_widen.specs.declared.schema_type.SchemaType.{SchemaType}
use Rattle.rng_widen.specs.declared.schema_type.SchemaType.TheVariants as type
use Rattle.rng_widen.specs.declared.schema_type.Sort.{Sort}
use Rattle.rng_widen.specs.declared.schema_type.Sort.TheVariants as sort

abbrev pub type_text : SchemaType → List ℕ
type_text type.String = codes "string"
type_text type.NormalizedString = codes "normalizedString"
type_text type.Token = codes "token"
type_text type.AnyUri = codes "anyURI"
type_text type.Name = codes "Name"
type_text type.NcName = codes "NCName"
type_text type.NmToken = codes "NMTOKEN"
type_text type.NmTokens = codes "NMTOKENS"
type_text type.Id = codes "ID"
type_text type.IdRef = codes "IDREF"
type_text type.IdRefs = codes "IDREFS"
type_text type.Entity = codes "ENTITY"
type_text type.Entities = codes "ENTITIES"
type_text type.HexBinary = codes "hexBinary"
type_text type.Base64Binary = codes "base64Binary"
type_text type.Language = codes "language"
type_text type.QName = codes "QName"
type_text type.Notation = codes "NOTATION"
type_text type.Boolean = codes "boolean"
type_text type.Decimal = codes "decimal"
type_text type.Integer = codes "integer"
type_text type.NonPositiveInteger = codes "nonPositiveInteger"
type_text type.NegativeInteger = codes "negativeInteger"
type_text type.NonNegativeInteger = codes "nonNegativeInteger"
type_text type.PositiveInteger = codes "positiveInteger"
type_text type.Long = codes "long"
type_text type.Int = codes "int"
type_text type.Short = codes "short"
type_text type.Byte = codes "byte"
type_text type.UnsignedLong = codes "unsignedLong"
type_text type.UnsignedInt = codes "unsignedInt"
type_text type.UnsignedShort = codes "unsignedShort"
type_text type.UnsignedByte = codes "unsignedByte"
type_text type.Date = codes "date"
type_text type.Time = codes "time"
type_text type.DateTime = codes "dateTime"
type_text type.GYear = codes "gYear"
type_text type.GYearMonth = codes "gYearMonth"
type_text type.GMonth = codes "gMonth"
type_text type.GDay = codes "gDay"
type_text type.GMonthDay = codes "gMonthDay"
type_text type.Duration = codes "duration"
type_text type.Float = codes "float"
type_text type.Double = codes "double"

-- A type that isn't held is checked as one that is held and has all of its texts: an entity's name is a name without a colon (3.3.11),
-- entities are a list of such names (3.3.12), and the texts of every other type are tokens, collapsed ones. That isn't always the narrowest:
-- each QName is a Name, too, and each duration an NMTOKEN. A type that is held is checked as it is
abbrev pub wider_type : SchemaType → Option SchemaType
wider_type type.Entity = Some type.NcName
wider_type type.Entities = Some type.IdRefs
wider_type type.QName = Some type.Token
wider_type type.Notation = Some type.Token
wider_type type.GMonth = Some type.Token
wider_type type.GDay = Some type.Token
wider_type type.GMonthDay = Some type.Token
wider_type type.Duration = Some type.Token
wider_type type.Float = Some type.Token
wider_type type.Double = Some type.Token
wider_type _ = None

-- types that have the same facets (section 4.1.5)
abbrev pub sort_of : SchemaType → Sort
sort_of type.String = sort.Texts
sort_of type.NormalizedString = sort.Texts
sort_of type.Token = sort.Texts
sort_of type.AnyUri = sort.Texts
sort_of type.Name = sort.Texts
sort_of type.NcName = sort.Texts
sort_of type.NmToken = sort.Texts
sort_of type.NmTokens = sort.Texts
sort_of type.Id = sort.Texts
sort_of type.IdRef = sort.Texts
sort_of type.IdRefs = sort.Texts
sort_of type.Entity = sort.Texts
sort_of type.Entities = sort.Texts
sort_of type.HexBinary = sort.Texts
sort_of type.Base64Binary = sort.Texts
sort_of type.Language = sort.Words
sort_of type.QName = sort.Words
sort_of type.Notation = sort.Words
sort_of type.Boolean = sort.Truths
sort_of type.Decimal = sort.Numbers
sort_of type.Integer = sort.Numbers
sort_of type.NonPositiveInteger = sort.Numbers
sort_of type.NegativeInteger = sort.Numbers
sort_of type.NonNegativeInteger = sort.Numbers
sort_of type.PositiveInteger = sort.Numbers
sort_of type.Long = sort.Numbers
sort_of type.Int = sort.Numbers
sort_of type.Short = sort.Numbers
sort_of type.Byte = sort.Numbers
sort_of type.UnsignedLong = sort.Numbers
sort_of type.UnsignedInt = sort.Numbers
sort_of type.UnsignedShort = sort.Numbers
sort_of type.UnsignedByte = sort.Numbers
sort_of type.Date = sort.Moments
sort_of type.Time = sort.Moments
sort_of type.DateTime = sort.Moments
sort_of type.GYear = sort.Moments
sort_of type.GYearMonth = sort.Moments
sort_of type.GMonth = sort.Moments
sort_of type.GDay = sort.Moments
sort_of type.GMonthDay = sort.Moments
sort_of type.Duration = sort.Moments
sort_of type.Float = sort.Moments
sort_of type.Double = sort.Moments
