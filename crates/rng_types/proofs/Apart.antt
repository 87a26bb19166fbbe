-- How far whole numbers lie apart, by their digits.
use Rattle.std.specs.Prelude.{◌≡◌, ℕ, ◌+◌, ◌-◌, ◌*◌, ◌<◌, ◌≤◌, min, ℤ, pos, negsuc, neg_ℤ, ◌-ℤ◌, Bool, true, false, not, nat_le, ◌==◌, if◌then◌else◌, List, [], ◌++◌, length, take, get_or}
use Rattle.std.proofs.Common.{refl, sym, ap, ◌∙◌, arith, append-nil}
use Rattle.std.proofs.lemmas.Bool.{and_parts, leb-true}
use Rattle.std.proofs.lemmas.Int.{ints}
use Rattle.std.proofs.lemmas.Int.Digits.{digits_value_more}
use Rattle.std.proofs.lemmas.List.Sums.{AllPass-from_list_all}
use Rattle.std.proofs.lemmas.Str.{digit_value_digit}
use Rattle.std.specs.Char.{is_ascii_digit, digit_value}
use Rattle.std.specs.List.{list_all}
use Rattle.std.specs.Str.Parse.{digits_value}
use Rattle.rng_types.specs.Numbers.{number_of, is_digits, is_integer, is_negative, unsigned, whole_part, fraction_part}
use Rattle.rng_types.specs.Offsets.{whole_number, offset_of, offset_digits}
use Rattle.rng_types.proofs.Literals.{Digits-integer, whole_alone, fraction_alone}

-- one more digit
pub digit_more : (text : List ℕ) (left : ℕ) → is_digits text ≡ true → 1 ≤ left → left ≤ length text →
    digits_value 10 (take (length text - (left - 1)) text) ≡ digits_value 10 (take (length text - left) text) * 10 + (get_or text (length text - left) 0 - 48)
digit_more text left digits some within =
    let i : ℕ = length text - left in
    let inside : i < length text = omega arith in
    let all = (and_parts (not (length text == 0)) (list_all is_ascii_digit text) digits).1 in
    let digit : is_ascii_digit (get_or text i 0) ≡ true = AllPass-from_list_all is_ascii_digit text all i 0 inside in
    let bounds = and_parts (nat_le 48 (get_or text i 0)) (nat_le (get_or text i 0) 57) digit in
    let is : digit_value (get_or text i 0) + 48 ≡ get_or text i 0 = digit_value_digit (get_or text i 0) (leb-true 48 (get_or text i 0) bounds.0, leb-true (get_or text i 0) 57 bounds.1) in
    let next : length text - (left - 1) ≡ i + 1 = omega arith in
    let more : digits_value 10 (take (i + 1) text) ≡ digits_value 10 (take i text) * 10 + digit_value (get_or text i 0) = digits_value_more 10 text i inside in
    ap (λ n. digits_value 10 (take n text)) next ∙ omega (arith, more, is)

abbrev signed : Bool → ℕ → ℤ
signed negative d = if negative then neg_ℤ (pos d) else pos d

pub digits-integer : (text : List ℕ) → is_integer text ≡ true → (number_of text).digits ≡ digits_value 10 (unsigned text)
digits-integer text integer =
    let u : List ℕ = unsigned text in
    let digits = Digits-integer text integer in
    let whole : whole_part text ≡ u = whole_alone u digits in
    let fraction : fraction_part text ≡ [] = fraction_alone u digits in
    ap (digits_value 10) (ap (λ (t : List ℕ). t ++ fraction_part text) whole ∙ ap (λ (t : List ℕ). u ++ t) fraction ∙ append-nil u)

whole_case : (negative : Bool) (d : ℕ) → (if negative then neg_ℤ (pos (d * 1)) else pos (d * 1)) ≡ signed negative d
whole_case true d = let same : d * 1 ≡ d = omega arith in ap (λ m. neg_ℤ (pos m)) same
whole_case false d = let same : d * 1 ≡ d = omega arith in ap pos same

pub whole_is : (text : List ℕ) (negative : Bool) → is_integer text ≡ true → is_negative text ≡ negative → whole_number text ≡ signed negative (digits_value 10 (unsigned text))
whole_is text negative integer is =
    whole_case (is_negative text) (number_of text).digits ∙ ap (signed (is_negative text)) (digits-integer text integer) ∙ ap (λ b. signed b (digits_value 10 (unsigned text))) is

above_above : (z : ℤ) (m n : ℕ) → z ≡ pos m -ℤ pos n → offset_of z ≡ offset_digits m n
above_above (pos k) m n is = let h : k + n ≡ m = omega (arith, ints, is) in omega arith
above_above (negsuc k) m n is = let h : m + k + 1 ≡ n = omega (arith, ints, is) in omega arith

below_below : (z : ℤ) (m n : ℕ) → z ≡ neg_ℤ (pos m) -ℤ neg_ℤ (pos n) → offset_of z ≡ offset_digits n m
below_below (pos k) m n is = let h : k + m ≡ n = omega (arith, ints, is) in omega arith
below_below (negsuc k) m n is = let h : n + k + 1 ≡ m = omega (arith, ints, is) in omega arith

above_below : (z : ℤ) (m n : ℕ) → z ≡ pos m -ℤ neg_ℤ (pos n) → offset_of z ≡ 1000 + min (min 1000 m + min 1000 n) 1000
above_below (pos k) m n is = let h : k ≡ m + n = omega (arith, ints, is) in omega arith
above_below (negsuc k) m n is = absurd (omega (arith, ints, is))

below_above : (z : ℤ) (m n : ℕ) → z ≡ neg_ℤ (pos m) -ℤ pos n → offset_of z ≡ 1000 - min (min 1000 m + min 1000 n) 1000
below_above (pos k) m n is = let h : k + m + n ≡ 0 = omega (arith, ints, is) in omega arith
below_above (negsuc k) m n is = let h : k + 1 ≡ m + n = omega (arith, ints, is) in omega arith

pub offset_above : (a b : List ℕ) → is_integer a ≡ true → is_integer b ≡ true → is_negative a ≡ false → is_negative b ≡ false →
    offset_digits (digits_value 10 (unsigned a)) (digits_value 10 (unsigned b)) ≡ offset_of (whole_number a -ℤ whole_number b)
offset_above a b ia ib na nb = rw (whole_is a false ia na, whole_is b false ib nb) (sym (above_above _ (digits_value 10 (unsigned a)) (digits_value 10 (unsigned b)) refl))

pub offset_below : (a b : List ℕ) → is_integer a ≡ true → is_integer b ≡ true → is_negative a ≡ true → is_negative b ≡ true →
    offset_digits (digits_value 10 (unsigned b)) (digits_value 10 (unsigned a)) ≡ offset_of (whole_number a -ℤ whole_number b)
offset_below a b ia ib na nb = rw (whole_is a true ia na, whole_is b true ib nb) (sym (below_below _ (digits_value 10 (unsigned a)) (digits_value 10 (unsigned b)) refl))

pub offset_up : (a b : List ℕ) → is_integer a ≡ true → is_integer b ≡ true → is_negative a ≡ false → is_negative b ≡ true →
    1000 + min (min 1000 (digits_value 10 (unsigned a)) + min 1000 (digits_value 10 (unsigned b))) 1000 ≡ offset_of (whole_number a -ℤ whole_number b)
offset_up a b ia ib na nb = rw (whole_is a false ia na, whole_is b true ib nb) (sym (above_below _ (digits_value 10 (unsigned a)) (digits_value 10 (unsigned b)) refl))

pub offset_down : (a b : List ℕ) → is_integer a ≡ true → is_integer b ≡ true → is_negative a ≡ true → is_negative b ≡ false →
    1000 - min (min 1000 (digits_value 10 (unsigned a)) + min 1000 (digits_value 10 (unsigned b))) 1000 ≡ offset_of (whole_number a -ℤ whole_number b)
offset_down a b ia ib na nb = rw (whole_is a true ia na, whole_is b false ib nb) (sym (below_above _ (digits_value 10 (unsigned a)) (digits_value 10 (unsigned b)) refl))
