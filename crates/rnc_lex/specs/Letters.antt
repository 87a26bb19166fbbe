-- The letters of a text: its characters after line ends and escapes (ISO/IEC 19757-2, Annex C).
use Rattle.std.specs.Prelude.{◌≡◌, ◌≢◌, ℕ, ◌-◌, ◌==◌, ◌⊎◌, Bool, true, false, if◌then◌else◌, List, [], ◌∷◌, ◌++◌, length, replicate}
use Rattle.std.specs.Prelude.{codes, IsTrue}
use Rattle.std.specs.Str.{chars, encode_utf8_all}
use Rattle.std.specs.Str.Parse.{IsNumeral, digits_value}
use Rattle.nx_base.specs.Characters.{is_char}
use Rattle.rnc_lex.specs.declared.letter.Letter.{Letter}

-- the characters of a text, a first U+FEFF left out
abbrev pub without_mark : List ℕ → List ℕ
without_mark [] = []
without_mark (c ∷ cs) = if c == 0xFEFF then cs else c ∷ cs

-- the byte offset at which these characters begin, the last ones of a text of so many bytes
abbrev pub place : ℕ → List ℕ → ℕ
place len cs = len - length (encode_utf8_all cs)

-- `\`, one `x` and so many more, and `{`
abbrev pub opening : ℕ → List ℕ
opening more = codes "\\x" ++ replicate more 120 ++ codes "{"

-- an escape begins, whatever follows it
abbrev pub BeginsEscape : List ℕ → Type 0
BeginsEscape cs = (more : ℕ) × (rest : List ℕ) × (cs ≡ opening more ++ rest)

-- an escape that denotes this Char: hexadecimal digits, one or more, between `\x{` and `}`
abbrev pub IsEscape : List ℕ → ℕ → Type 0
IsEscape spelled c = (more : ℕ) × (digits : List ℕ) × (spelled ≡ opening more ++ digits ++ codes "}")
    × IsNumeral 16 digits × (c ≡ digits_value 16 digits) × IsTrue (is_char c)

-- a line ends, in front of these characters: CR LF, or CR alone
abbrev pub IsLineEnd : List ℕ → List ℕ → Type 0
IsLineEnd spelled rest = (spelled ≡ codes "\r\n") ⊎ ((spelled ≡ codes "\r") × ((more : List ℕ) → rest ≢ codes "\n" ++ more))

-- what stands for a letter of this character, written or from an escape, in front of the rest
pub data StandsFor (spelled rest : List ℕ) (c : ℕ) (written : Bool) : Type 0 where
  -- a Char that neither ends a line nor begins an escape stands for itself
  itself : spelled ≡ c ∷ [] → IsTrue (is_char c) → c ≢ 13 → (BeginsEscape (c ∷ rest) → ⊥) → written ≡ true
      → StandsFor spelled rest c written
  -- a written line end stands for LF
  line_end : IsLineEnd spelled rest → c ≡ 10 → written ≡ true → StandsFor spelled rest c written
  -- an escape stands for the Char that it denotes
  escape : IsEscape spelled c → written ≡ false → StandsFor spelled rest c written

-- characters, the last ones of a text of so many bytes, are these letters and then the rest
abbrev pub AreLetters : ℕ → List ℕ → List Letter → List ℕ → Type 0
AreLetters len cs [] rest = cs ≡ rest
AreLetters len cs (letter ∷ letters) rest = (spelled more : List ℕ) × (cs ≡ spelled ++ more)
    × StandsFor spelled more letter.character letter.written × (letter.at ≡ place len cs) × AreLetters len more letters rest

-- the text is these letters and then these characters
abbrev pub BeginsWithLetters : List ℕ → List Letter → List ℕ → Type 0
BeginsWithLetters text letters rest = AreLetters (length text) (without_mark (chars text)) letters rest

-- the letters of a text
abbrev pub IsLettersOf : List ℕ → List Letter → Type 0
IsLettersOf text letters = BeginsWithLetters text letters []

-- behind letters, at this place, an escape begins that denotes no Char, or that has no digits or no `}`
abbrev pub BadEscapeAt : List ℕ → ℕ → Type 0
BadEscapeAt text at = (letters : List Letter) × (rest : List ℕ) × BeginsWithLetters text letters rest
    × BeginsEscape rest × ((spelled more : List ℕ) (c : ℕ) → rest ≡ spelled ++ more → IsEscape spelled c → ⊥)
    × (at ≡ place (length text) rest)

-- behind letters, at this place, a character stands that isn't a Char
abbrev pub NoCharAt : List ℕ → ℕ → Type 0
NoCharAt text at = (letters : List Letter) × (c : ℕ) × (rest : List ℕ) × BeginsWithLetters text letters (c ∷ rest)
    × (is_char c ≡ false) × (at ≡ place (length text) (c ∷ rest))
