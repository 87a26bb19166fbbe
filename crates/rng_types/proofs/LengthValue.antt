-- The number that at most nine digits write, one digit after another.
use Rattle.std.specs.Prelude.{◌≡◌, ℕ, zero, suc, ◌+◌, ◌-◌, ◌*◌, ◌^◌, ◌<◌, ◌≤◌, true, not, nat_le, ◌==◌, List, length, take, get_or}
use Rattle.std.proofs.Common.{arith}
use Rattle.std.proofs.Math.Nat.{pow-le-pow_right}
use Rattle.std.proofs.lemmas.Bool.{and_parts, leb-true}
use Rattle.std.proofs.lemmas.List.{length-take-le}
use Rattle.std.proofs.lemmas.List.Sums.{AllPass-from_list_all}
use Rattle.std.proofs.lemmas.Int.Digits.{digits_value_more}
use Rattle.std.proofs.lemmas.Str.{digit_value_digit}
use Rattle.std.specs.Char.{is_ascii_digit, digit_value}
use Rattle.std.specs.List.{list_all}
use Rattle.std.specs.Str.Parse.{digits_value}
use Rattle.rng_types.specs.Numbers.{is_digits}
use Rattle.rng_types.specs.Naming.{is_length}
use Rattle.rng_types.proofs.Digits.{Digits, no_digit, more_digits, Digits-from_all, value-lt, digits_value-value}

Digits-take : {xs : List ℕ} (n : ℕ) → Digits xs → Digits (take n xs)
Digits-take zero digits = no_digit
Digits-take (suc n) no_digit = no_digit
Digits-take (suc n) (more_digits low high more) = more_digits low high (Digits-take n more)

-- what one more digit makes of the number so far
pub record Step (number digit : ℕ) (value : List ℕ) (i : ℕ) : Type 0 where
  pub next : number * 10 + digit ≡ digits_value 10 (take (i + 1) value)
  pub fits : number * 10 + digit < 2 ^ 32

pub length_step : (text : List ℕ) (i number : ℕ) → is_length text ≡ true → i < length text → number ≡ digits_value 10 (take i text) → Step number (get_or text i 0 - 48) text i
length_step text i number is_short inside so_far =
    let parts = and_parts (is_digits text) (nat_le (length text) 9) is_short in
    let all = (and_parts (not (length text == 0)) (list_all is_ascii_digit text) parts.0).1 in
    let digits = Digits-from_all text all in
    let digit : is_ascii_digit (get_or text i 0) ≡ true = AllPass-from_list_all is_ascii_digit text all i 0 inside in
    let bounds = and_parts (nat_le 48 (get_or text i 0)) (nat_le (get_or text i 0) 57) digit in
    let low : 48 ≤ get_or text i 0 = leb-true 48 (get_or text i 0) bounds.0 in
    let high : get_or text i 0 ≤ 57 = leb-true (get_or text i 0) 57 bounds.1 in
    let is : digit_value (get_or text i 0) + 48 ≡ get_or text i 0 = digit_value_digit (get_or text i 0) (low, high) in
    let more : digits_value 10 (take (i + 1) text) ≡ digits_value 10 (take i text) * 10 + digit_value (get_or text i 0) = digits_value_more 10 text i inside in
    let next : number * 10 + (get_or text i 0 - 48) ≡ digits_value 10 (take (i + 1) text) = omega (arith, more, is, so_far) in
    let front = Digits-take (i + 1) digits in
    let long : length (take (i + 1) text) ≤ 9 = omega (arith, length-take-le (i + 1) text (omega arith), leb-true (length text) 9 parts.1) in
    let most : 10 ^ length (take (i + 1) text) ≤ 10 ^ 9 = pow-le-pow_right (omega arith) long in
    let small : digits_value 10 (take (i + 1) text) < 10 ^ length (take (i + 1) text) = rw (digits_value-value front) (value-lt front) in
    record { next = next; fits = omega (arith, next, small, most) }
