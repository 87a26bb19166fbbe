-- The types that a schema can name: those that are built in, and those of XML Schema Part 2.
use Rattle.std.specs.Prelude.{ℕ, List, [], ◌∷◌, Option, None, codes, if◌then◌else◌}
use Rattle.std.specs.List.{find}
use Rattle.std.specs.Str.{bytes_eq}
use Rattle.rng_more_types.specs.declared.more_type.MoreType.TheVariants.{Date, Time, DateTime, GYear, GYearMonth, HexBinary, Base64Binary}
use Rattle.rng_types.specs.declared.kind.Whitespace.TheVariants.{Preserve, Replace, Collapse}
use Rattle.rng_types.specs.declared.kind.Word.TheVariants as word
use Rattle.rng_types.specs.declared.kind.Form.{Form}
use Rattle.rng_types.specs.declared.kind.Form.TheVariants.{Any, One, Several, More}
use Rattle.rng_types.specs.declared.kind.Takes.{Takes}
use Rattle.rng_types.specs.declared.kind.Takes.TheVariants.{Nothing, Lengths, Bounds}

-- a type: its name, its form, the facets that may be put on it, and the ends of its range, each empty where there is none
pub record TypeRow : Type 0 where
  pub name : List ℕ
  pub form : Form
  pub takes : Takes
  pub low : List ℕ
  pub high : List ℕ

abbrev text_type : List ℕ → Form → TypeRow
text_type name form = record { name = name; form = form; takes = Lengths; low = []; high = [] }

abbrev plain_type : List ℕ → Form → TypeRow
plain_type name form = record { name = name; form = form; takes = Nothing; low = []; high = [] }

abbrev whole_type : List ℕ → List ℕ → List ℕ → TypeRow
whole_type name low high = record { name = name; form = One word.Integer; takes = Bounds; low = low; high = high }

-- RELAX NG's own types
abbrev pub builtin_types : List TypeRow
builtin_types =
    plain_type (codes "string") (Any Preserve)
    ∷ plain_type (codes "token") (Any Collapse)
    ∷ []

-- those of XML Schema Part 2, sections 3.2 and 3.3
abbrev pub schema_types : List TypeRow
schema_types =
    text_type (codes "string") (Any Preserve)
    ∷ text_type (codes "normalizedString") (Any Replace)
    ∷ text_type (codes "token") (Any Collapse)
    ∷ text_type (codes "anyURI") (Any Collapse)
    ∷ text_type (codes "Name") (One word.Name)
    ∷ text_type (codes "NCName") (One word.NcName)
    ∷ text_type (codes "NMTOKEN") (One word.NmToken)
    ∷ text_type (codes "ID") (One word.NcName)
    ∷ text_type (codes "IDREF") (One word.NcName)
    ∷ text_type (codes "NMTOKENS") (Several word.NmToken)
    ∷ text_type (codes "IDREFS") (Several word.NcName)
    ∷ plain_type (codes "language") (One word.Language)
    ∷ plain_type (codes "boolean") (One word.Boolean)
    ∷ record { name = codes "decimal"; form = One word.Decimal; takes = Bounds; low = []; high = [] }
    ∷ whole_type (codes "integer") [] []
    ∷ whole_type (codes "nonPositiveInteger") [] (codes "0")
    ∷ whole_type (codes "negativeInteger") [] (codes "-1")
    ∷ whole_type (codes "nonNegativeInteger") (codes "0") []
    ∷ whole_type (codes "positiveInteger") (codes "1") []
    ∷ whole_type (codes "long") (codes "-9223372036854775808") (codes "9223372036854775807")
    ∷ whole_type (codes "int") (codes "-2147483648") (codes "2147483647")
    ∷ whole_type (codes "short") (codes "-32768") (codes "32767")
    ∷ whole_type (codes "byte") (codes "-128") (codes "127")
    ∷ whole_type (codes "unsignedLong") (codes "0") (codes "18446744073709551615")
    ∷ whole_type (codes "unsignedInt") (codes "0") (codes "4294967295")
    ∷ whole_type (codes "unsignedShort") (codes "0") (codes "65535")
    ∷ whole_type (codes "unsignedByte") (codes "0") (codes "255")
    ∷ plain_type (codes "date") (More Date)
    ∷ plain_type (codes "time") (More Time)
    ∷ plain_type (codes "dateTime") (More DateTime)
    ∷ plain_type (codes "gYear") (More GYear)
    ∷ plain_type (codes "gYearMonth") (More GYearMonth)
    ∷ text_type (codes "hexBinary") (More HexBinary)
    ∷ text_type (codes "base64Binary") (More Base64Binary)
    ∷ []

abbrev pub schema_library : List ℕ
schema_library = codes "http://www.w3.org/2001/XMLSchema-datatypes"

-- the type of that name in the library of that URI
abbrev pub type_named : List ℕ → List ℕ → Option TypeRow
type_named library name =
    if bytes_eq library [] then find (λ row. bytes_eq row.name name) builtin_types
    else (if bytes_eq library schema_library then find (λ row. bytes_eq row.name name) schema_types
    else None)
