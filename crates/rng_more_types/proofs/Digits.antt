-- Numbers of decimal digits.
use Rattle.std.proofs.Common.{◌≡◌, ℕ, ◌+◌, ◌-◌, ◌*◌, ◌^◌, ◌<◌, ◌≤◌, true, List, [], ◌∷◌, length, get_or, take, arith}
use Rattle.std.specs.List.{list_all}
use Rattle.std.specs.Char.{is_ascii_digit}
use Rattle.std.specs.Int.{IsInRange}
use Rattle.std.specs.Str.Parse.{AllDigits, digits_value}
use Rattle.std.proofs.Math.Nat.{pow-le-pow_right}
use Rattle.std.proofs.lemmas.Bool.{and_parts, and_from, leb-true, le-leb}
use Rattle.std.proofs.lemmas.Int.Digits.{digits_value_more, digits_value-lt}
use Rattle.std.proofs.lemmas.Str.Parse.{digit_at, digits_value-take-le}
use Rattle.std.proofs.lemmas.Str.{digit_value_digit}

pub digit_range : (c : ℕ) → is_ascii_digit c ≡ true → IsInRange 48 57 c
digit_range c e = let parts = and_parts _ _ e in (leb-true 48 c parts.0, leb-true c 57 parts.1)

pub range_digit : (c : ℕ) → 48 ≤ c → c ≤ 57 → is_ascii_digit c ≡ true
range_digit c low high = and_from _ _ (le-leb 48 c low) (le-leb c 57 high)

pub all_digits : (cs : List ℕ) → list_all is_ascii_digit cs ≡ true → AllDigits 10 cs
all_digits [] all = tt
all_digits (c ∷ cs) all =
    let parts = and_parts (is_ascii_digit c) (list_all is_ascii_digit cs) all in
    let range = digit_range c parts.0 in
    (omega (arith, digit_value_digit c range, range.1), all_digits cs parts.1)

-- one more digit of at most nine
pub number_more : (digits : List ℕ) (i number : ℕ) → list_all is_ascii_digit digits ≡ true → length digits ≤ 9 → i < length digits → number ≡ digits_value 10 (take i digits)
    → (number * 10 + (get_or digits i 0 - 48) ≡ digits_value 10 (take (i + 1) digits)) × (number * 10 + (get_or digits i 0 - 48) < 10 ^ 9) × (48 ≤ get_or digits i 0)
number_more digits i number are short lt is =
    let all = all_digits digits are in
    let range = digit_at digits i all lt in
    let worth = digit_value_digit (get_or digits i 0) range in
    let more = digits_value_more 10 digits i lt in
    let same : number * 10 + (get_or digits i 0 - 48) ≡ digits_value 10 (take (i + 1) digits) = omega (arith, worth, more, is, range.0) in
    let least = digits_value-take-le 10 digits (i + 1) (omega arith) in
    let some : 0 < 10 = omega arith in
    let most : 10 ^ length digits ≤ 10 ^ 9 = pow-le-pow_right some short in
    let fits = digits_value-lt 10 digits all in
    (same, omega (arith, same, least, fits, most), range.0)

pub number_fits : (digits : List ℕ) → list_all is_ascii_digit digits ≡ true → length digits ≤ 9 → digits_value 10 digits < 10 ^ 9
number_fits digits are short =
    let some : 0 < 10 = omega arith in
    let most : 10 ^ length digits ≤ 10 ^ 9 = pow-le-pow_right some short in
    let fits = digits_value-lt 10 digits (all_digits digits are) in
    omega (arith, fits, most)
