-- Lengths, as their digits are read.
use Rattle.std.proofs.Common.{◌≡◌, ℕ, zero, suc, ◌+◌, ◌-◌, ◌*◌, ◌^◌, ◌<◌, ◌≤◌, Bool, true, false, cond, List, [], ◌∷◌, length, get_or, take, refl, sym, ap, ◌∙◌, arith}
use Rattle.std.specs.List.{prefix_len}
use Rattle.std.specs.Char.{is_ascii_digit, digit_value}
use Rattle.std.specs.Int.{IsInRange}
use Rattle.std.specs.Str.Parse.{AllDigits, digits_value}
use Rattle.nx_wire.specs.Frames.{IsLength}
use Rattle.std.proofs.lemmas.Bool.Decides.{nat_tests}
use Rattle.std.proofs.lemmas.Int.Digits.{digits_value_more}
use Rattle.std.proofs.lemmas.Str.Parse.{digit_from_value, digit_at, numerals_by_value, tells_digits, digits_value_short, digits_value-take-le}

-- what a digit is worth
digit_value_is : (c : ℕ) → IsInRange 48 57 c → digit_value c ≡ c - 48
digit_value_is c (low, high) = grind (arith, nat_tests)

-- one more digit, while the number still fits
pub number_more : (digits : List ℕ) (i number : ℕ) → AllDigits 10 digits → length digits ≤ 19 → i < length digits → number ≡ digits_value 10 (take i digits)
    → (number * 10 + (get_or digits i 0 - 48) ≡ digits_value 10 (take (i + 1) digits)) × (number * 10 + (get_or digits i 0 - 48) < 10 ^ 19) × (48 ≤ get_or digits i 0)
number_more digits i number all short lt is =
    let worth = digit_value_is (get_or digits i 0) (digit_at digits i all lt) in
    let more = digits_value_more 10 digits i lt in
    let same : number * 10 + (get_or digits i 0 - 48) ≡ digits_value 10 (take (i + 1) digits) = omega (arith, worth, more, is) in
    let least = digits_value-take-le 10 digits (i + 1) (omega arith) in
    let fits = digits_value_short (numerals_by_value (AllDigits 10) tells_digits) digits 19 all short in
    (same, omega (arith, same, least, fits), (digit_at digits i all lt).0)

digit_test : (c : ℕ) → is_ascii_digit c ≡ true → digit_value c < 10
digit_test c e = grind (arith, nat_tests)

test_digit : (c : ℕ) → digit_value c < 10 → is_ascii_digit c ≡ true
test_digit c h = let range = digit_from_value c h in grind (arith, nat_tests)

-- one digit more, by the test of it
digits_more : (c : ℕ) (bytes : List ℕ) (test : Bool) → test ≡ is_ascii_digit c → suc (length bytes) ≤ cond test (1 + prefix_len is_ascii_digit bytes) 0
    → (length bytes ≤ prefix_len is_ascii_digit bytes → AllDigits 10 bytes) → AllDigits 10 (c ∷ bytes)
digits_more c bytes true e h rest = (digit_test c (sym e), rest (omega (arith, h)))
digits_more c bytes false e h rest = absurd (omega (arith, h))

-- all of a text are digits where as many stand at its front as it has bytes
pub all_digits : (bytes : List ℕ) → length bytes ≤ prefix_len is_ascii_digit bytes → AllDigits 10 bytes
all_digits [] h = tt
all_digits (c ∷ bytes) h = digits_more c bytes (is_ascii_digit c) refl h (all_digits bytes)

pub digits_all : (bytes : List ℕ) → AllDigits 10 bytes → prefix_len is_ascii_digit bytes ≡ length bytes
digits_all [] h = refl
digits_all (c ∷ bytes) h =
    let rest = digits_all bytes h.1 in
    rw (test_digit c h.0) (omega (arith, rest))

-- ---- what is a length, and what isn't

pub read_length : (value : List ℕ) (digits number : ℕ) → digits ≡ prefix_len is_ascii_digit value → length value ≤ digits → digits ≤ 19 → 1 ≤ digits
    → digits ≤ length value → number ≡ digits_value 10 value → IsLength value number
read_length value digits number is all few some within same = record {
  numeral = (omega (arith, some, within), all_digits value (omega (arith, is, all)));
  few = omega (arith, all, few);
  value_is = same;
}

pub short_front : (value : List ℕ) (digits len : ℕ) → digits ≡ prefix_len is_ascii_digit value → digits < length value → ¬ (IsLength value len)
short_front value digits len is short h = let all = digits_all value h.numeral.1 in omega (arith, is, short, all)

pub many_digits : (value : List ℕ) (digits len : ℕ) → digits ≤ length value → 19 < digits → ¬ (IsLength value len)
many_digits value digits len within many h = omega (arith, within, many, h.few)

pub no_digits : (value : List ℕ) (digits len : ℕ) → length value ≤ digits → digits < 1 → ¬ (IsLength value len)
no_digits value digits len all none h = omega (arith, all, none, h.numeral.0)
