-- Numbers, as their digits are read.
use Rattle.std.proofs.Common.{◌≡◌, ℕ, zero, suc, ◌+◌, ◌-◌, ◌*◌, ◌^◌, ◌<◌, ◌≤◌, true, false, cond, eqb, ltb, List, [], ◌∷◌, ◌++◌, length, get_or, take, drop, Option, Some, None, refl, sym, ap, ◌∙◌, arith, inl, inr, append_assoc}
use Rattle.std.specs.List.{prefix_len}
use Rattle.std.specs.Char.{is_ascii_digit, digit_value}
use Rattle.std.specs.Int.{IsInRange}
use Rattle.std.specs.Str.Parse.{AllDigits, digits_value}
use Rattle.std.proofs.lemmas.List.{take_at, drop_at, take-append-drop}
use Rattle.std.proofs.lemmas.Option.{some_pair_parts}
use Rattle.std.proofs.lemmas.List.Folds.{length-prefix_len}
use Rattle.std.proofs.lemmas.Bool.{eqb-false, ne_eqb, le-ltb, ltb-false}
use Rattle.std.proofs.lemmas.Bool.Decides.{nat_tests}
use Rattle.std.proofs.lemmas.Int.Digits.{digits_value_more, digits_value-lt}
use Rattle.std.proofs.Math.Nat.{pow-le-pow_right}
use Rattle.std.proofs.lemmas.Str.Parse.{digit_from_value, digit_at, numerals_by_value, tells_digits, digits_value_short, digits_value-take-le}
use Rattle.nx_script.specs.Grammar.{IsBlank, IsGap, IsNumber}
use Rattle.nx_script.specs.Reading.{is_blank, digits_at, number_at, after_gap}
use Rattle.nx_script.proofs.Blanks.{Pass, FirstFails, prefix_len_is, front_passes, after_gap_is, after_gap_takes, chosen, found_step, Ends}

-- what a digit is worth
digit_value_is : (c : ℕ) → IsInRange 48 57 c → digit_value c ≡ c - 48
digit_value_is c (low, high) = grind (arith, nat_tests)

-- one more digit, while the number still fits
pub number_more : (digits : List ℕ) (i number : ℕ) → AllDigits 10 digits → length digits ≤ 19 → i < length digits → number ≡ digits_value 10 (take i digits)
    → (number * 10 + (get_or digits i 0 - 48) ≡ digits_value 10 (take (i + 1) digits)) × (number * 10 + (get_or digits i 0 - 48) < 10 ^ 19) × (48 ≤ get_or digits i 0)
number_more digits i number all short lt is =
    let worth = digit_value_is (get_or digits i 0) (digit_at digits i all lt) in
    let more = digits_value_more 10 digits i lt in
    let same : number * 10 + (get_or digits i 0 - 48) ≡ digits_value 10 (take (i + 1) digits) = omega (arith, worth, more, is) in
    let least = digits_value-take-le 10 digits (i + 1) (omega arith) in
    let fits = digits_value_short (numerals_by_value (AllDigits 10) tells_digits) digits 19 all short in
    (same, omega (arith, same, least, fits), (digit_at digits i all lt).0)

all_at : (digits : List ℕ) (i : ℕ) → AllDigits 16 digits → i < length digits → digit_value (get_or digits i 0) < 16
all_at [] i h lt = absurd (omega arith)
all_at (c ∷ digits) zero h lt = h.0
all_at (c ∷ digits) (suc i) h lt = all_at digits i h.1 (omega arith)

-- the same of a code in hexadecimal digits
pub code_more : (digits : List ℕ) (i code : ℕ) → AllDigits 16 digits → length digits ≤ 6 → i < length digits → code ≡ digits_value 16 (take i digits)
    → (code * 16 + digit_value (get_or digits i 0) ≡ digits_value 16 (take (i + 1) digits)) × (code * 16 + digit_value (get_or digits i 0) < 2 ^ 24) × (digit_value (get_or digits i 0) < 16)
code_more digits i code all short lt is =
    let more = digits_value_more 16 digits i lt in
    let same : code * 16 + digit_value (get_or digits i 0) ≡ digits_value 16 (take (i + 1) digits) = omega (arith, more, is) in
    let least = digits_value-take-le 16 digits (i + 1) (omega arith) in
    let some : 0 < 16 = omega arith in
    let most : 16 ^ length digits ≤ 16 ^ 6 = pow-le-pow_right some short in
    let fits = digits_value-lt 16 digits all in
    (same, omega (arith, same, least, fits, most), all_at digits i all lt)

-- ---- between the test of a digit and its value

digit_test : (c : ℕ) → is_ascii_digit c ≡ true → digit_value c < 10
digit_test c e = grind (arith, nat_tests)

test_digit : (c : ℕ) → digit_value c < 10 → is_ascii_digit c ≡ true
test_digit c h = let range = digit_from_value c h in grind (arith, nat_tests)

AllDigits-pass : (bytes : List ℕ) → Pass is_ascii_digit bytes → AllDigits 10 bytes
AllDigits-pass [] h = tt
AllDigits-pass (c ∷ bytes) h = (digit_test c h.0, AllDigits-pass bytes h.1)

pass-AllDigits : (bytes : List ℕ) → AllDigits 10 bytes → Pass is_ascii_digit bytes
pass-AllDigits [] h = tt
pass-AllDigits (c ∷ bytes) h = (test_digit c h.0, pass-AllDigits bytes h.1)

pub digits_at_front : (bytes : List ℕ) → AllDigits 10 (take (prefix_len is_ascii_digit bytes) bytes)
digits_at_front bytes = AllDigits-pass (take (prefix_len is_ascii_digit bytes) bytes) (front_passes is_ascii_digit bytes)

-- ---- what is read is a number, and a number is read

digits_at_is : (word rest : List ℕ) (number : ℕ) → IsNumber word number → FirstFails is_ascii_digit rest → digits_at (word ++ rest) ≡ Some (number, rest)
unfolding digits_at
digits_at_is word rest number ((some, all), short, is) k =
    let count = prefix_len_is is_ascii_digit word rest (pass-AllDigits word all) k in
    let any : eqb (length word) 0 ≡ false = ne_eqb (length word) 0 (omega arith) in
    let few : ltb 18 (length word) ≡ false = le-ltb 18 (length word) short in
    rw (count, any, few, take_at word rest (length word) refl, drop_at word rest (length word) refl, is) refl

digits_at_takes : (bytes rest : List ℕ) (number : ℕ) → digits_at bytes ≡ Some (number, rest) → (word : List ℕ) × (bytes ≡ word ++ rest) × IsNumber word number
unfolding digits_at
digits_at_takes bytes rest number e =
    let n = prefix_len is_ascii_digit bytes in
    let word = take n bytes in
    let read : Option (ℕ × List ℕ) = Some (digits_value 10 word, drop n bytes) in
    elim (chosen (eqb n 0) None (cond (ltb 18 n) None read) (Some (number, rest)) e) [
      | inl (none, h) ↦ absurd cc
      | inr (some, h) ↦ elim (chosen (ltb 18 n) None read (Some (number, rest)) h) [
        | inl (many, k) ↦ absurd cc
        | inr (few, k) ↦
            let parts = some_pair_parts (digits_value 10 word) number (drop n bytes) rest k in
            let any = eqb-false n 0 some in
            let short = ltb-false 18 n few in
            let len = length-prefix_len is_ascii_digit bytes in
            (word, sym (take-append-drop n bytes) ∙ ap (λ r. word ++ r) parts.1, ((omega arith, digits_at_front bytes), omega arith, sym parts.0))
      ]
    ]

-- a digit is no blank, and a blank no digit
digit_no_blank : (c : ℕ) → digit_value c < 10 → is_blank c ≡ false
digit_no_blank c h = let range = digit_from_value c h in grind (arith, nat_tests)

number_no_blank : (word rest : List ℕ) (number : ℕ) → IsNumber word number → FirstFails is_blank (word ++ rest)
number_no_blank [] rest number h = absurd (omega (arith, h.0.0))
number_no_blank (c ∷ word) rest number h = digit_no_blank c h.0.1.0

blank_no_digit : (c : ℕ) → IsBlank c → is_ascii_digit c ≡ false
blank_no_digit c (inl space) = grind (arith, nat_tests)
blank_no_digit c (inr tab) = grind (arith, nat_tests)

Ends-no_digit : (rest : List ℕ) → Ends rest → FirstFails is_ascii_digit rest
Ends-no_digit [] h = tt
Ends-no_digit (c ∷ rest) h = blank_no_digit c h

pub number_at_is : (gap word rest : List ℕ) (number : ℕ) → IsGap gap → IsNumber word number → Ends rest → number_at (gap ++ word ++ rest) ≡ Some (number, rest)
unfolding number_at
number_at_is gap word rest number g h k =
    rw (append_assoc gap word rest, after_gap_is gap (word ++ rest) g (number_no_blank word rest number h)) (digits_at_is word rest number h (Ends-no_digit rest k))

pub number_at_takes : (bytes rest : List ℕ) (number : ℕ) → number_at bytes ≡ Some (number, rest) → (gap word : List ℕ) × (bytes ≡ gap ++ word ++ rest) × IsGap gap × IsNumber word number
unfolding number_at
number_at_takes bytes rest number e =
    let step = found_step (after_gap bytes) digits_at (number, rest) e in
    let gap = after_gap_takes bytes step.0 step.1 in
    let word = digits_at_takes step.0 rest number step.2 in
    (gap.0, word.0, gap.1 ∙ ap (λ r. gap.0 ++ r) word.1 ∙ sym (append_assoc gap.0 word.0 rest), gap.2, word.2)
