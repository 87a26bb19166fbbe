-- The character at the front of a text (RFC 3629, section 3).
use Rattle.std.specs.Prelude.{ℕ, zero, suc, ◌+◌, ◌-◌, ◌*◌, List, [], ◌∷◌}
use Rattle.std.specs.Str.{continuation_len, lead_bits}

-- what the bits of a first byte and of the n bytes that follow it make
abbrev pub with_following : ℕ → ℕ → List ℕ → ℕ
with_following zero c bytes = c
with_following (suc n) c [] = c
with_following (suc n) c (b ∷ bytes) = with_following n (c * 64 + (b - 128)) bytes

-- the code of the character at the front, and 0 where there is none
unfoldable pub front_char : List ℕ → ℕ
front_char [] = 0
front_char (b ∷ bytes) = with_following (continuation_len b) (lead_bits b) bytes

-- how many bytes it has
abbrev pub front_char_len : List ℕ → ℕ
front_char_len [] = 0
front_char_len (b ∷ bytes) = suc (continuation_len b)
