-- What each type accepts, and which texts have the same value: XML Schema Part 2, sections 3.2.7 to 3.2.11, 3.2.15 and 3.2.16.
-- White space collapses: none matters at the ends of a text, nor between the characters of base64.
use Rattle.std.specs.Prelude.{◌≡◌, ℕ, Bool, false, ◌==◌, ◌&&◌, if◌then◌else◌, List, length, IsTrue, Option, Some, None, is_some, codes}
use Rattle.std.specs.Str.{bytes_eq}
use Rattle.std.specs.Bool.{beq}
use Rattle.rng_more_types.specs.Spaces.{trimmed, unspaced}
use Rattle.rng_more_types.specs.Literals.{Literal, type_of, spelled, is_right, Moment, moment_of}
use Rattle.rng_more_types.specs.Octets.{is_hex, octets_of_hex, is_base64, octets_of_base64}
use Rattle.rng_more_types.specs.Reading.{moment_read}
use Rattle.rng_more_types.specs.declared.more_type.MoreType.{MoreType}
use Rattle.rng_more_types.specs.declared.more_type.MoreType.TheVariants.{Date, Time, DateTime, GYear, GYearMonth, HexBinary, Base64Binary}

-- a type by its name
abbrev pub more_type_named : List ℕ → Option MoreType
more_type_named name =
    if bytes_eq name (codes "date") then Some Date
    else (if bytes_eq name (codes "time") then Some Time
    else (if bytes_eq name (codes "dateTime") then Some DateTime
    else (if bytes_eq name (codes "gYear") then Some GYear
    else (if bytes_eq name (codes "gYearMonth") then Some GYearMonth
    else (if bytes_eq name (codes "hexBinary") then Some HexBinary
    else (if bytes_eq name (codes "base64Binary") then Some Base64Binary
    else None))))))

-- The five types of dates and times. A text is the literal of the type, with white space at its ends
pub record Writes (type : MoreType) (text : List ℕ) (literal : Literal) : Type 0 where
  pub kind : type_of literal ≡ type
  pub right : IsTrue (is_right literal)
  pub parts : trimmed text ≡ spelled literal

pub record IsMoment (type : MoreType) (text : List ℕ) : Type 0 where
  pub literal : Literal
  pub written : Writes type text literal

-- both are literals that stand for one moment
pub record AreSameMoment (type : MoreType) (a b : List ℕ) : Type 0 where
  pub first : Literal
  pub second : Literal
  pub first_written : Writes type a first
  pub second_written : Writes type b second
  pub same : moment_of first ≡ moment_of second

-- what a type accepts
abbrev pub IsLiteral : MoreType → List ℕ → Type 0
IsLiteral Date text = IsMoment Date text
IsLiteral Time text = IsMoment Time text
IsLiteral DateTime text = IsMoment DateTime text
IsLiteral GYear text = IsMoment GYear text
IsLiteral GYearMonth text = IsMoment GYearMonth text
IsLiteral HexBinary text = IsTrue (is_hex (trimmed text))
IsLiteral Base64Binary text = IsTrue (is_base64 (unspaced text))

-- the octets of an accepted text
abbrev pub hex_octets : List ℕ → List ℕ
hex_octets text = octets_of_hex (trimmed text)

abbrev pub base64_octets : List ℕ → List ℕ
base64_octets text = octets_of_base64 (unspaced text)

-- two accepted texts have the same value
abbrev pub HaveSameValue : MoreType → List ℕ → List ℕ → Type 0
HaveSameValue Date a b = AreSameMoment Date a b
HaveSameValue Time a b = AreSameMoment Time a b
HaveSameValue DateTime a b = AreSameMoment DateTime a b
HaveSameValue GYear a b = AreSameMoment GYear a b
HaveSameValue GYearMonth a b = AreSameMoment GYearMonth a b
HaveSameValue HexBinary a b = hex_octets a ≡ hex_octets b
HaveSameValue Base64Binary a b = base64_octets a ≡ base64_octets b

-- how many octets an accepted text has; dates and times have none to count
abbrev pub octets_of : MoreType → List ℕ → Option ℕ
octets_of Date text = None
octets_of Time text = None
octets_of DateTime text = None
octets_of GYear text = None
octets_of GYearMonth text = None
octets_of HexBinary text = Some (length (hex_octets text))
octets_of Base64Binary text = Some (length (base64_octets text))

-- the same as answers, by reading
abbrev pub is_literal : MoreType → List ℕ → Bool
is_literal Date text = is_some (moment_read Date (trimmed text))
is_literal Time text = is_some (moment_read Time (trimmed text))
is_literal DateTime text = is_some (moment_read DateTime (trimmed text))
is_literal GYear text = is_some (moment_read GYear (trimmed text))
is_literal GYearMonth text = is_some (moment_read GYearMonth (trimmed text))
is_literal HexBinary text = is_hex (trimmed text)
is_literal Base64Binary text = is_base64 (unspaced text)

abbrev pub is_same_moment : Moment → Moment → Bool
is_same_moment x y = beq x.zoned y.zoned && (x.seconds == y.seconds && bytes_eq x.fraction y.fraction)

abbrev pub are_same_moment : Option Moment → Option Moment → Bool
are_same_moment None found = false
are_same_moment (Some x) None = false
are_same_moment (Some x) (Some y) = is_same_moment x y

abbrev pub is_same : MoreType → List ℕ → List ℕ → Bool
is_same Date a b = are_same_moment (moment_read Date (trimmed a)) (moment_read Date (trimmed b))
is_same Time a b = are_same_moment (moment_read Time (trimmed a)) (moment_read Time (trimmed b))
is_same DateTime a b = are_same_moment (moment_read DateTime (trimmed a)) (moment_read DateTime (trimmed b))
is_same GYear a b = are_same_moment (moment_read GYear (trimmed a)) (moment_read GYear (trimmed b))
is_same GYearMonth a b = are_same_moment (moment_read GYearMonth (trimmed a)) (moment_read GYearMonth (trimmed b))
is_same HexBinary a b = bytes_eq (hex_octets a) (hex_octets b)
is_same Base64Binary a b = bytes_eq (base64_octets a) (base64_octets b)
