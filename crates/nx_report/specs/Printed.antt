-- Texts of documents as a terminal is shown them: no control character of ASCII is written as it is.
use Rattle.std.specs.Prelude.{ℕ, Bool, nat_lt, ◌==◌, ◌||◌, if◌then◌else◌, List, [], ◌∷◌, ◌++◌, codes, false}
use Rattle.std.specs.Fmt.{digits}
use Rattle.std.specs.List.{flat_map}

-- below U+0020, and U+007F
abbrev pub is_control : ℕ → Bool
is_control byte = nat_lt byte 0x20 || byte == 0x7F

-- `\u{h}`, where h is the code in hexadecimal digits, lower-case ones
abbrev pub escape : ℕ → List ℕ
escape byte = codes "\\u{" ++ digits 16 false byte ++ codes "}"

-- how a byte of a text prints; a control character is one byte
abbrev pub printed : ℕ → List ℕ
printed byte = if is_control byte then escape byte else byte ∷ []

-- how a text prints
abbrev pub printed_text : List ℕ → List ℕ
printed_text text = flat_map printed text

-- in quotes
abbrev pub quoted : List ℕ → List ℕ
quoted text = codes "\"" ++ printed_text text ++ codes "\""
