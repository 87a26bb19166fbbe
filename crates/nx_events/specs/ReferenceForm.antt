-- References by their grammar, and what they denote (XML 1.0, 4.1 [66] to [68] and 4.6).
use Rattle.std.specs.Prelude.{◌≡◌, ℕ, ◌+◌, ◌*◌, ◌^◌, true, List, [], ◌∷◌, ◌++◌, length, codes, ◌⊎◌}
use Rattle.std.specs.Char.{digit_value}
use Rattle.std.specs.Str.{IsUtf8, chars}
use Rattle.nx_base.specs.Characters.{is_char}
use Rattle.nx_base.specs.Form.{Form, Spells, seq, alt}
use Rattle.nx_base.specs.Tags.{name_form}
use Rattle.nx_events.specs.Words.{word, some, digit, hexdigit}

-- what stands between `&` and `;`: a Name, `#` and digits, or `#x` and hexadecimal digits
abbrev pub reference_form : Form
reference_form = alt name_form (alt (seq (word (codes "#")) (some digit)) (seq (word (codes "#x")) (some hexdigit)))

pub record HasShape (body : List ℕ) : Type 0 where
  pub utf8 : IsUtf8 body
  pub spelled : Spells reference_form (chars body)

-- the predefined entities, each with its character (4.6)
abbrev pub entities : List (List ℕ × ℕ)
entities = (codes "lt", 60) ∷ (codes "gt", 62) ∷ (codes "amp", 38) ∷ (codes "apos", 39) ∷ (codes "quot", 34) ∷ []

abbrev pub IsEntity : List (List ℕ × ℕ) → List ℕ → ℕ → Type 0
IsEntity [] body c = ⊥
IsEntity (entity ∷ others) body c = ((body ≡ entity.0) × (c ≡ entity.1)) ⊎ IsEntity others body c

-- the number that digits write: each digit at its place
unfoldable pub value_of : ℕ → List ℕ → ℕ
value_of base [] = 0
value_of base (d ∷ digits) = digit_value d * base ^ length digits + value_of base digits

-- what stands between `&` and `;` denotes this character: as an entity, or by its number, which has to be that of a Char (4.1,
-- Legal Character)
pub data Denotes (body : List ℕ) (c : ℕ) : Type 0 where
  entity : IsEntity entities body c → Denotes body c
  decimal : (digits : List ℕ) → body ≡ codes "#" ++ digits → Spells (some digit) digits → c ≡ value_of 10 digits → is_char c
      ≡ true → Denotes body c
  hexadecimal : (digits : List ℕ) → body ≡ codes "#x" ++ digits → Spells (some hexdigit) digits → c ≡ value_of 16 digits
      → is_char c ≡ true → Denotes body c
