-- Names and codes, over characters.
use Rattle.std.specs.Prelude.{◌≡◌, ◌⊎◌, ℕ, ◌+◌, ◌*◌, ◌<◌, ◌≤◌, min, true, List, ◌∷◌, ◌++◌, length, take, encode_utf8}
use Rattle.std.proofs.Common.{arith, refl, sym, ap, ◌∙◌, inl, inr, get_or}
use Rattle.std.proofs.Math.Nat.{min-eq_left, le-mul_of_pos_right}
use Rattle.std.proofs.lemmas.Bool.{cases_lt}
use Rattle.std.proofs.lemmas.Int.Digits.{digits_value_more}
use Rattle.std.proofs.lemmas.Str.{chars_past_char}
use Rattle.std.specs.Char.{digit_value}
use Rattle.std.specs.List.{list_all}
use Rattle.std.specs.Str.{chars, IsUtf8}
use Rattle.std.specs.Str.Parse.{digits_value}
use Rattle.nx_base.specs.Characters.{is_name_start, is_name_char, is_name}

-- a character that begins a name may stand in one
start_is_name_char : (c : ℕ) → is_name_start c ≡ true → is_name_char c ≡ true
unfolding is_name_char
start_is_name_char c start = rw start refl

from_start : (c : ℕ) (cs : List ℕ) → is_name_start c ≡ true → is_name (c ∷ cs) ≡ list_all is_name_char (c ∷ cs)
from_start c cs start = rw (start, start_is_name_char c start) refl

-- a text whose first character begins a name is one where all its characters may stand in one
pub is_name-start : (text rest : List ℕ) (c : ℕ) → IsUtf8 text → text ≡ encode_utf8 c ++ rest → is_name_start c ≡ true →
    list_all is_name_char (chars text) ≡ is_name (chars text)
is_name-start text rest c utf8 begins start = rw (chars_past_char text rest c utf8 begins) (sym (from_start c (chars rest) start))

both_at_limit : (limit a b d : ℕ) → limit ≤ a → limit ≤ b → min (a + d) limit ≡ min (b + d) limit
both_at_limit limit a b d above_a above_b = omega arith

-- a limit on a number that is greater already is the same limit on one more digit
at_limit : (limit v d base : ℕ) → limit ≤ v → 0 < base → min (min v limit * base + d) limit ≡ min (v * base + d) limit
at_limit limit v d base big some =
    let below : limit ≤ limit * base = le-mul_of_pos_right limit some in
    let above : v ≤ v * base = le-mul_of_pos_right v some in
    let is_limit : min v limit ≡ limit = omega arith in
    ap (λ n. min (n * base + d) limit) is_limit ∙ both_at_limit limit (limit * base) (v * base) d below (omega arith)

limited_step : (limit v d base : ℕ) → 0 < base → min (min v limit * base + d) limit ≡ min (v * base + d) limit
limited_step limit v d base some = at_cases (cases_lt v limit)
  where
    at_cases : (v < limit) ⊎ (limit ≤ v) → min (min v limit * base + d) limit ≡ min (v * base + d) limit
    at_cases (inl small) = let eq : min v limit ≡ v = min-eq_left (omega arith) in ap (λ n. min (n * base + d) limit) eq
    at_cases (inr big) = at_limit limit v d base big some

-- one digit more
pub code_more : (base : ℕ) (digits : List ℕ) (i code : ℕ) → 0 < base → i < length digits →
    code ≡ min (digits_value base (take i digits)) 0x110000 →
    min (code * base + digit_value (get_or digits i 0)) 0x110000 ≡ min (digits_value base (take (i + 1) digits)) 0x110000
code_more base digits i code some within is =
    ap (λ n. min (n * base + digit_value (get_or digits i 0)) 0x110000) is
    ∙ limited_step 0x110000 (digits_value base (take i digits)) (digit_value (get_or digits i 0)) base some
    ∙ ap (λ n. min n 0x110000) (sym (digits_value_more base digits i within))
