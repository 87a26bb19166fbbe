-- Tokens of characters of names, over the characters of a text.
use Rattle.std.specs.Prelude.{◌≡◌, ℕ, true, false, ◌==◌, not, List, [], ◌∷◌, length}
use Rattle.std.proofs.Common.{refl, sym, ap, ◌∙◌, arith}
use Rattle.std.proofs.lemmas.Bool.Decides.{nat_tests}
use Rattle.std.specs.List.{list_all}
use Rattle.std.specs.Str.{chars, IsUtf8, encode_utf8_all}
use Rattle.std.proofs.lemmas.Bool.{false≢true}
use Rattle.std.proofs.lemmas.Str.{chars-nil, encodes-chars}
use Rattle.nx_base.specs.Characters.{is_name_char}
use Rattle.rng_types.specs.Words.{is_nm_token}

-- a text with no character is empty
length_from_no_chars : (bs cs : List ℕ) → encode_utf8_all cs ≡ bs → (length bs == 0) ≡ false → not (length cs == 0) ≡ true
length_from_no_chars bs [] spelt filled = absurd (false≢true (sym filled ∙ ap (λ (t : List ℕ). length t == 0) (sym spelt)))
length_from_no_chars bs (c ∷ cs) spelt filled = grind (arith, nat_tests)

pub is_nm_token-filled : (bs : List ℕ) → IsUtf8 bs → (length bs == 0) ≡ false → is_nm_token (chars bs) ≡ list_all is_name_char (chars bs)
is_nm_token-filled bs utf8 filled = rw (length_from_no_chars bs (chars bs) (encodes-chars bs utf8) filled) refl

pub is_nm_token-empty : (bs : List ℕ) → (length bs == 0) ≡ true → is_nm_token (chars bs) ≡ false
is_nm_token-empty [] empty = rw chars-nil refl
is_nm_token-empty (b ∷ bs) empty = absurd (grind (arith, nat_tests))
