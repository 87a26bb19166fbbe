-- Messages among bytes. The protocol's head is that of HTTP: fields, and an empty line (RFC 9112, 5); one of them, of whatever case, tells
-- how many bytes of content follow.
use Rattle.std.specs.Prelude.{◌≡◌, ℕ, ◌+◌, ◌^◌, ◌<◌, ◌≤◌, ◌⊎◌, List, [], ◌∷◌, ◌++◌, length, take, drop, map, codes, decimal, Option, Some, None}
use Rattle.std.specs.Char.{to_ascii_lowercase}
use Rattle.std.specs.Str.Parse.{IsNumeral, digits_value}
use Rattle.httparse.specs.Grammar.{Field, HasNoSection, LineEnd, MayBecomeSection, ReadsSection, print_section}
use Rattle.httparse.specs.Spans.{name_and_value}
use Rattle.nx_wire.specs.declared.frame.Frame.{Frame}
use Rattle.nx_wire.specs.declared.frame.Frame.TheVariants.{Whole, Partial, Wrong}

-- the name of the field that tells the length
abbrev pub IsLengthName : List ℕ → Type 0
IsLengthName name = map to_ascii_lowercase name ≡ map to_ascii_lowercase (codes "Content-Length")

-- the value of the first field of that name, among names with values
abbrev pub FirstLength : List (List ℕ × List ℕ) → Option (List ℕ) → Type 0
FirstLength [] found = found ≡ None
FirstLength (field ∷ rest) found =
    (IsLengthName field.0 × (found ≡ Some field.1)) ⊎ ((¬ (IsLengthName field.0)) × FirstLength rest found)

-- a length in 1 to 19 digits
pub record IsLength (value : List ℕ) (len : ℕ) : Type 0 where
  pub numeral : IsNumeral 10 value
  pub few : length value ≤ 19
  pub value_is : len ≡ digits_value 10 value

-- the length that fields tell
pub record HasLength (fields : List (List ℕ × List ℕ)) (len : ℕ) : Type 0 where
  pub value : List ℕ
  pub first : FirstLength fields (Some value)
  pub length_is : IsLength value len

-- a text begins with a message of this content, and that is what follows; a message is within bounds: 16 fields, 4,096 bytes of head, and
-- 1 GiB of content
pub record IsFrame (text body rest : List ℕ) : Type 0 where
  pub fields : List Field
  pub last : LineEnd
  pub reads : ReadsSection text fields last (body ++ rest)
  pub length_told : HasLength (map name_and_value fields) (length body)
  pub few : length fields ≤ 16
  pub short : length (print_section fields last) ≤ 4096
  pub small : length body ≤ 2 ^ 30

-- no message is whole yet
abbrev pub HasNoFrame : List ℕ → Type 0
HasNoFrame text = (body rest : List ℕ) → ¬ (IsFrame text body rest)

-- none will be, whatever comes
abbrev pub NeverHasFrame : List ℕ → Type 0
NeverHasFrame text = (more : List ℕ) → HasNoFrame (text ++ more)

-- a head with these names and values ends at a byte offset
pub record IsHead (text : List ℕ) (at : ℕ) (parts : List (List ℕ × List ℕ)) : Type 0 where
  pub fields : List Field
  pub last : LineEnd
  pub reads : ReadsSection text fields last (drop at text)
  pub at_is : at ≡ length (print_section fields last)
  pub parts_are : parts ≡ map name_and_value fields
  pub few : length fields ≤ 16

-- a head ends there, and tells so many bytes of content
pub record TellsLength (text : List ℕ) (at len : ℕ) : Type 0 where
  pub parts : List (List ℕ × List ℕ)
  pub head : IsHead text at parts
  pub told : HasLength parts len
  pub short : at ≤ 4096

-- more has to come: what stands there may become a head that is short enough, or is a head with a part of its content
abbrev pub AwaitsMore : List ℕ → Type 0
AwaitsMore text =
    (HasNoSection text × MayBecomeSection text × (length text ≤ 4096))
    ⊎ ((at len : ℕ) × TellsLength text at len × (len ≤ 2 ^ 30) × (length text < at + len))

-- what stands at the start of a text
abbrev pub FindsFrame : List ℕ → Frame → Type 0
FindsFrame text (Whole at len) =
    (at + len ≤ length text) × IsFrame text (take len (drop at text)) (drop len (drop at text))
FindsFrame text Partial = HasNoFrame text × AwaitsMore text
FindsFrame text Wrong = NeverHasFrame text

-- a text begins with one message at most
abbrev pub FramesAreOne : Type 0
FramesAreOne = (text body other rest left : List ℕ) → IsFrame text body rest → IsFrame text other left → (body ≡ other) × (rest ≡ left)

-- what is sent for a content
abbrev pub frame : List ℕ → List ℕ
frame body = codes "Content-Length: " ++ decimal (length body) ++ codes "\r\n\r\n" ++ body
