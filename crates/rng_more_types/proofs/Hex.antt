-- Octets in hexadecimal digits.
use Rattle.std.proofs.Common.{◌≡◌, ℕ, ◌+◌, ◌*◌, ◌/◌, ◌%◌, ◌<◌, ◌≤◌, ◌⊎◌, Bool, true, eqb, List, [], ◌∷◌, map, length, refl, ap, ◌∙◌, arith, inl, inr}
use Rattle.std.specs.List.{list_all}
use Rattle.std.specs.Bool.{Decides}
use Rattle.std.specs.Str.{bytes_eq}
use Rattle.std.specs.Char.{is_ascii_hexdigit, to_ascii_lowercase, digit_value}
use Rattle.std.proofs.lemmas.Bool.{and_parts, or_cases, leb-true, eqb-true}
use Rattle.std.proofs.lemmas.Bool.Decides.{nat_tests}
use Rattle.std.proofs.lemmas.Slice.Eq.{bytes_eq-Decides}
use Rattle.std.proofs.lemmas.List.{length-map}
use Rattle.rng_more_types.specs.Octets.{octets_of_fours, octets_of_hex, is_hex}

-- each number is below a limit
abbrev pub Below : ℕ → List ℕ → Type 0
Below limit [] = Unit {0}
Below limit (x ∷ xs) = (x < limit) × Below limit xs

pub fours_count : (xs : List ℕ) → length (octets_of_fours xs) ≡ length xs / 2
fours_count [] = refl
fours_count (a ∷ []) = refl
fours_count (a ∷ (b ∷ more)) = omega (arith, fours_count more)

pub fours_same : (xs ys : List ℕ) → Below 16 xs → Below 16 ys → length xs % 2 ≡ 0 → length ys % 2 ≡ 0 → octets_of_fours xs ≡ octets_of_fours ys → xs ≡ ys
fours_same [] [] below other even event same = refl
fours_same [] (b ∷ []) below other even event same = absurd (omega arith)
fours_same [] (b ∷ (d ∷ ys)) below other even event same = absurd cc
fours_same (a ∷ []) ys below other even event same = absurd (omega arith)
fours_same (a ∷ (c ∷ xs)) [] below other even event same = absurd cc
fours_same (a ∷ (c ∷ xs)) (b ∷ []) below other even event same = absurd (omega arith)
fours_same (a ∷ (c ∷ xs)) (b ∷ (d ∷ ys)) below other even event same =
    let first : 16 * a + c ≡ 16 * b + d = cc in
    let more : octets_of_fours xs ≡ octets_of_fours ys = cc in
    let high : a ≡ b = omega (arith, first, below.1.0, other.1.0) in
    let low : c ≡ d = omega (arith, first, high) in
    let rest = fours_same xs ys below.1.1 other.1.1 (omega arith) (omega arith) more in
    cc

-- what one function gives follows what another gives, element by element
pub map_follows : (f g : ℕ → ℕ) (test : ℕ → Bool) → ((x y : ℕ) → test x ≡ true → test y ≡ true → f x ≡ f y → g x ≡ g y)
    → (xs ys : List ℕ) → list_all test xs ≡ true → list_all test ys ≡ true → map f xs ≡ map f ys → map g xs ≡ map g ys
map_follows f g test each [] [] all other same = refl
map_follows f g test each [] (y ∷ ys) all other same = absurd cc
map_follows f g test each (x ∷ xs) [] all other same = absurd cc
map_follows f g test each (x ∷ xs) (y ∷ ys) all other same =
    let a = and_parts (test x) (list_all test xs) all in
    let b = and_parts (test y) (list_all test ys) other in
    let heads : f x ≡ f y = cc in
    let tails : map f xs ≡ map f ys = cc in
    let first = each x y a.0 b.0 heads in
    let more = map_follows f g test each xs ys a.1 b.1 tails in
    cc

pub map_below : (f : ℕ → ℕ) (test : ℕ → Bool) (limit : ℕ) → ((x : ℕ) → test x ≡ true → f x < limit) → (xs : List ℕ) → list_all test xs ≡ true → Below limit (map f xs)
map_below f test limit each [] all = tt
map_below f test limit each (x ∷ xs) all =
    let parts = and_parts (test x) (list_all test xs) all in
    (each x parts.0, map_below f test limit each xs parts.1)

-- a digit or a letter
abbrev Kinds : ℕ → Type 0
Kinds c = ((to_ascii_lowercase c ≡ digit_value c + 48) × (digit_value c ≤ 9)) ⊎ ((to_ascii_lowercase c ≡ digit_value c + 87) × (10 ≤ digit_value c) × (digit_value c ≤ 15))

low_kind : (c : ℕ) → 48 ≤ c → c ≤ 57 → (to_ascii_lowercase c ≡ digit_value c + 48) × (digit_value c ≤ 9)
low_kind c low high = (grind (arith, nat_tests), grind (arith, nat_tests))

upper_kind : (c : ℕ) → 65 ≤ c → c ≤ 70 → (to_ascii_lowercase c ≡ digit_value c + 87) × (10 ≤ digit_value c) × (digit_value c ≤ 15)
upper_kind c low high = (grind (arith, nat_tests), grind (arith, nat_tests), grind (arith, nat_tests))

lower_kind : (c : ℕ) → 97 ≤ c → c ≤ 102 → (to_ascii_lowercase c ≡ digit_value c + 87) × (10 ≤ digit_value c) × (digit_value c ≤ 15)
lower_kind c low high = (grind (arith, nat_tests), grind (arith, nat_tests), grind (arith, nat_tests))

kind : (c : ℕ) → is_ascii_hexdigit c ≡ true → Kinds c
kind c is = elim (or_cases _ _ is) [
  | inl upper ↦ elim (or_cases _ _ upper) [
    | inl digit ↦ let p = and_parts _ _ digit in inl (low_kind c (leb-true 48 c p.0) (leb-true c 57 p.1))
    | inr letter ↦ let p = and_parts _ _ letter in inr (upper_kind c (leb-true 65 c p.0) (leb-true c 70 p.1))
  ]
  | inr lower ↦ let p = and_parts _ _ lower in inr (lower_kind c (leb-true 97 c p.0) (leb-true c 102 p.1))
]

pub kind_below : (c : ℕ) → is_ascii_hexdigit c ≡ true → digit_value c < 16
kind_below c is = elim (kind c is) [ inl k ↦ omega (arith, k.1) | inr k ↦ omega (arith, k.2) ]

value_from_lower : (a b : ℕ) → is_ascii_hexdigit a ≡ true → is_ascii_hexdigit b ≡ true → to_ascii_lowercase a ≡ to_ascii_lowercase b → digit_value a ≡ digit_value b
value_from_lower a b is other same = elim (kind a is) [
  | inl k ↦ elim (kind b other) [ inl m ↦ omega (arith, k.0, m.0, same) | inr m ↦ omega (arith, k.0, k.1, m.0, m.1, same) ]
  | inr k ↦ elim (kind b other) [ inl m ↦ omega (arith, k.0, k.1, m.0, m.1, same) | inr m ↦ omega (arith, k.0, m.0, same) ]
]

lower_from_value : (a b : ℕ) → is_ascii_hexdigit a ≡ true → is_ascii_hexdigit b ≡ true → digit_value a ≡ digit_value b → to_ascii_lowercase a ≡ to_ascii_lowercase b
lower_from_value a b is other same = elim (kind a is) [
  | inl k ↦ elim (kind b other) [ inl m ↦ omega (arith, k.0, m.0, same) | inr m ↦ omega (arith, k.1, m.1, same) ]
  | inr k ↦ elim (kind b other) [ inl m ↦ omega (arith, k.1, m.1, same) | inr m ↦ omega (arith, k.0, m.0, same) ]
]

pub record IsHex (text : List ℕ) : Type 0 where
  pub even : length text % 2 ≡ 0
  pub digits : list_all is_ascii_hexdigit text ≡ true

pub hex_parts : (text : List ℕ) → is_hex text ≡ true → IsHex text
unfolding is_hex
hex_parts text is =
    let parts = and_parts (eqb (length text % 2) 0) (list_all is_ascii_hexdigit text) is in
    record { even = eqb-true (length text % 2) 0 parts.0; digits = parts.1 }

pub hex_count : (text : List ℕ) → length (octets_of_hex text) ≡ length text / 2
hex_count text = fours_count (map digit_value text) ∙ ap (λ n. n / 2) (length-map text digit_value)

-- two texts are the same octets where they are the same but for the case of letters
pub hex_decides : (a b : List ℕ) → is_hex a ≡ true → is_hex b ≡ true → Decides (bytes_eq (octets_of_hex a) (octets_of_hex b)) (map to_ascii_lowercase a ≡ map to_ascii_lowercase b)
hex_decides a b is other =
    let first = hex_parts a is in
    let second = hex_parts b other in
    let octets = bytes_eq-Decides (octets_of_hex a) (octets_of_hex b) in (
      λ same. map_follows digit_value to_ascii_lowercase is_ascii_hexdigit lower_from_value a b first.digits second.digits
          (fours_same (map digit_value a) (map digit_value b) (map_below digit_value is_ascii_hexdigit 16 kind_below a first.digits) (map_below digit_value is_ascii_hexdigit 16 kind_below b second.digits)
          (ap (λ n. n % 2) (length-map a digit_value) ∙ first.even) (ap (λ n. n % 2) (length-map b digit_value) ∙ second.even) (octets.0 same)),
      λ same. octets.1 (ap octets_of_fours (map_follows to_ascii_lowercase digit_value is_ascii_hexdigit value_from_lower a b first.digits second.digits same)),
    )
