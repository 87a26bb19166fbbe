-- What a URI text denotes, read against a base, by the basic URL parser (URL Standard, section 4.4)
-- and the URL serializer (section 4.5).
use Rattle.std.specs.Prelude.{◌≡◌, ℕ, ◌<◌, ◌≤◌, ◌⊎◌, List, length, Some, None, Ok, Err}
use Rattle.nx_host.specs.declared.uri.UriFault.{UriFault}
use Rattle.nx_host.specs.declared.uri.UriFault.TheVariants.{Bad, NoMemory}
use Rattle.url.specs.declared.error.ParseError.{ParseError}
use Rattle.url.specs.Parser.{parse_url, IsOutOfRoom}
use Rattle.url.specs.Parts.{Parts, serialize}

-- the most bytes that the text of a URI may have
abbrev pub uri_limit : ℕ
uri_limit = 65535

-- the text, read against the base, denotes this URI
pub record Joins (base text uri : List ℕ) : Type 0 where
  pub within_limit : length text ≤ uri_limit
  pub base_parts : Parts
  pub base_reads : parse_url None base ≡ Ok base_parts
  pub parts : Parts
  pub text_reads : parse_url (Some base_parts) text ≡ Ok parts
  pub printed : uri ≡ serialize parts

-- the base is no URI, for another cause than want of room
abbrev pub IsBadBase : List ℕ → Type 0
IsBadBase base = (error : ParseError) × (parse_url None base ≡ Err error) × ¬ IsOutOfRoom error

-- the base is a URI against which the text is none, for another cause than want of room
abbrev pub IsBadAgainst : List ℕ → List ℕ → Type 0
IsBadAgainst base text =
    (parts : Parts) × (error : ParseError) × (parse_url None base ≡ Ok parts)
    × (parse_url (Some parts) text ≡ Err error) × ¬ IsOutOfRoom error

-- the text, read against the base, denotes no URI
abbrev pub IsBadUri : List ℕ → List ℕ → Type 0
IsBadUri base text = (uri_limit < length text) ⊎ IsBadBase base ⊎ IsBadAgainst base text

-- no text denotes a URI and none, and no text denotes two
abbrev pub JoinsIsDecided : Type 0
JoinsIsDecided =
    ((base text uri : List ℕ) → Joins base text uri → ¬ IsBadUri base text)
    × ((base text first second : List ℕ) → Joins base text first → Joins base text second → first ≡ second)

-- each text denotes a URI, or is a bad one: the parser, as it is defined, never wants room
abbrev pub TextsJoinOrAreBad : Type 0
TextsJoinOrAreBad = (base text : List ℕ) → ((uri : List ℕ) × Joins base text uri) ⊎ IsBadUri base text

-- `url`'s want of room is want of memory, and each of its other errors makes the URI a bad one
abbrev pub FaultOf : ParseError → UriFault → Type 0
FaultOf error Bad = ¬ IsOutOfRoom error
FaultOf error NoMemory = IsOutOfRoom error
