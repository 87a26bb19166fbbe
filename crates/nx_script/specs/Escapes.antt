-- Texts as they print: some of their characters as escapes.
use Rattle.std.specs.Prelude.{◌≡◌, ℕ, Bool, nat_lt, ◌==◌, ◌||◌, if◌then◌else◌, List, [], ◌∷◌, ◌++◌, codes, encode_utf8, false}
use Rattle.std.specs.Fmt.{digits}
use Rattle.std.specs.List.{flat_map}
use Rattle.std.specs.Str.{IsUtf8, chars}

-- below U+0020, U+007F, and the backslash
abbrev pub is_escaped : ℕ → Bool
is_escaped c = nat_lt c 0x20 || c == 0x7F || c == 92

-- `\u{h}`, where h is the code in hexadecimal digits, lower-case ones
abbrev pub escape : ℕ → List ℕ
escape c = codes "\\u{" ++ digits 16 false c ++ codes "}"

-- how a byte of a text prints; a character that prints as an escape is one byte
abbrev pub printed : ℕ → List ℕ
printed byte = if is_escaped byte then escape byte else byte ∷ []

-- how a text prints
abbrev pub printed_text : List ℕ → List ℕ
printed_text text = flat_map printed text

-- how a character prints
abbrev pub printed_character : ℕ → List ℕ
printed_character c = if is_escaped c then escape c else encode_utf8 c

-- a text prints character by character
abbrev pub TextsPrintByCharacter : Type 0
TextsPrintByCharacter = (text : List ℕ) → IsUtf8 text → printed_text text ≡ flat_map printed_character (chars text)
