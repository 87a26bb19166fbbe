-- Octets in base64.
use Rattle.std.proofs.Common.{◌≡◌, ℕ, zero, suc, ◌+◌, ◌-◌, ◌*◌, ◌/◌, ◌%◌, ◌<◌, ◌≤◌, min, Bool, true, eqb, ◌==◌, ◌&&◌, List, [], ◌∷◌, map, length, codes, refl, sym, ap, ◌∙◌, arith, inl, inr, length-append}
use Rattle.std.specs.List.{list_all, position_or_len}
use Rattle.std.specs.Bool.{Decides}
use Rattle.std.specs.Str.{bytes_eq}
use Rattle.std.proofs.lemmas.Bool.{and_parts, or_cases, leb-true, eqb-true, false≢true}
use Rattle.std.proofs.lemmas.Bool.Decides.{nat_tests}
use Rattle.std.proofs.lemmas.List.{length-map, map-id, take-append-drop}
use Rattle.std.proofs.lemmas.Slice.Eq.{bytes_eq-Decides}
use Rattle.rng_more_types.specs.Octets.{octets_of_sixes, octets_of_base64, base64_value, is_base64, is_base64_digit, is_filler, digits_of, fillers_of, is_one_of, last_from, is_ending}
use Rattle.rng_more_types.specs.Laws.{base64_digit}
use Rattle.rng_more_types.proofs.Hex.{Below, map_follows, map_below}

pub sixes_count : (xs : List ℕ) → length (octets_of_sixes xs) ≡ length xs - (length xs / 4 + min 1 (length xs % 4))
sixes_count [] = refl
sixes_count (a ∷ []) = refl
sixes_count (a ∷ (b ∷ [])) = refl
sixes_count (a ∷ (b ∷ (c ∷ []))) = refl
sixes_count (a ∷ (b ∷ (c ∷ (d ∷ more)))) = omega (arith, sixes_count more)

-- the spare bits of the last group are zeros, and it isn't one number
abbrev pub Ends : List ℕ → Type 0
Ends [] = Unit {0}
Ends (a ∷ []) = ⊥
Ends (a ∷ (b ∷ [])) = b % 16 ≡ 0
Ends (a ∷ (b ∷ (c ∷ []))) = c % 4 ≡ 0
Ends (a ∷ (b ∷ (c ∷ (d ∷ more)))) = Ends more

two_same : (a b c d : ℕ) → a < 64 → b < 64 → c < 64 → d < 64 → b % 16 ≡ 0 → d % 16 ≡ 0 → 4 * a + b / 16 ≡ 4 * c + d / 16 → (a ≡ c) × (b ≡ d)
two_same a b c d one two three four even event same =
    let first : a ≡ c = omega arith in
    (first, omega arith)

three_same : (a b c d e f : ℕ) → b < 64 → c < 64 → e < 64 → f < 64 → c % 4 ≡ 0 → f % 4 ≡ 0 → 4 * a + b / 16 ≡ 4 * d + e / 16 → 16 * (b % 16) + c / 4 ≡ 16 * (e % 16) + f / 4 → (a ≡ d) × (b ≡ e) × (c ≡ f)
three_same a b c d e f two three five six even event same more =
    let first : a ≡ d = omega (arith, same) in
    let high : b / 16 ≡ e / 16 = omega (arith, same, first) in
    let low : b % 16 ≡ e % 16 = omega (arith, more) in
    let third : c / 4 ≡ f / 4 = omega (arith, more, low) in
    (first, omega (arith, high, low), omega (arith, third, even, event))

four_same : (a b c g d e f h : ℕ) → b < 64 → c < 64 → e < 64 → f < 64 → g < 64 → h < 64 → 4 * a + b / 16 ≡ 4 * d + e / 16 → 16 * (b % 16) + c / 4 ≡ 16 * (e % 16) + f / 4 → 64 * (c % 4) + g ≡ 64 * (f % 4) + h → (a ≡ d) × (b ≡ e) × (c ≡ f) × (g ≡ h)
four_same a b c g d e f h two three five six seven eight same more most =
    let first : a ≡ d = omega (arith, same) in
    let high : b / 16 ≡ e / 16 = omega (arith, same, first) in
    let low : b % 16 ≡ e % 16 = omega (arith, more) in
    let third : c / 4 ≡ f / 4 = omega (arith, more, low) in
    let rest : c % 4 ≡ f % 4 = omega (arith, most) in
    (first, omega (arith, high, low), omega (arith, third, rest), omega (arith, most, rest))

-- the same octets are of the same numbers
pub sixes_same : (xs ys : List ℕ) → Below 64 xs → Below 64 ys → Ends xs → Ends ys → octets_of_sixes xs ≡ octets_of_sixes ys → xs ≡ ys
sixes_same [] [] below other ends end same = refl
sixes_same [] (b ∷ []) below other ends end same = absurd end
sixes_same [] (b ∷ (d ∷ [])) below other ends end same = absurd cc
sixes_same [] (b ∷ (d ∷ (f ∷ []))) below other ends end same = absurd cc
sixes_same [] (b ∷ (d ∷ (f ∷ (h ∷ ys)))) below other ends end same = absurd cc
sixes_same (a ∷ []) ys below other ends end same = absurd ends
sixes_same (a ∷ (c ∷ [])) [] below other ends end same = absurd cc
sixes_same (a ∷ (c ∷ [])) (b ∷ []) below other ends end same = absurd end
sixes_same (a ∷ (c ∷ [])) (b ∷ (d ∷ [])) below other ends end same =
    let first : 4 * a + c / 16 ≡ 4 * b + d / 16 = cc in
    let parts = two_same a c b d below.0 below.1.0 other.0 other.1.0 ends end first in
    cc (parts.0, parts.1)
sixes_same (a ∷ (c ∷ [])) (b ∷ (d ∷ (f ∷ []))) below other ends end same = absurd cc
sixes_same (a ∷ (c ∷ [])) (b ∷ (d ∷ (f ∷ (h ∷ ys)))) below other ends end same = absurd cc
sixes_same (a ∷ (c ∷ (e ∷ []))) [] below other ends end same = absurd cc
sixes_same (a ∷ (c ∷ (e ∷ []))) (b ∷ []) below other ends end same = absurd end
sixes_same (a ∷ (c ∷ (e ∷ []))) (b ∷ (d ∷ [])) below other ends end same = absurd cc
sixes_same (a ∷ (c ∷ (e ∷ []))) (b ∷ (d ∷ (f ∷ []))) below other ends end same =
    let first : 4 * a + c / 16 ≡ 4 * b + d / 16 = cc in
    let second : 16 * (c % 16) + e / 4 ≡ 16 * (d % 16) + f / 4 = cc in
    let parts = three_same a c e b d f below.1.0 below.1.1.0 other.1.0 other.1.1.0 ends end first second in
    cc (parts.0, parts.1, parts.2)
sixes_same (a ∷ (c ∷ (e ∷ []))) (b ∷ (d ∷ (f ∷ (h ∷ ys)))) below other ends end same = absurd cc
sixes_same (a ∷ (c ∷ (e ∷ (g ∷ xs)))) [] below other ends end same = absurd cc
sixes_same (a ∷ (c ∷ (e ∷ (g ∷ xs)))) (b ∷ []) below other ends end same = absurd end
sixes_same (a ∷ (c ∷ (e ∷ (g ∷ xs)))) (b ∷ (d ∷ [])) below other ends end same = absurd cc
sixes_same (a ∷ (c ∷ (e ∷ (g ∷ xs)))) (b ∷ (d ∷ (f ∷ []))) below other ends end same = absurd cc
sixes_same (a ∷ (c ∷ (e ∷ (g ∷ xs)))) (b ∷ (d ∷ (f ∷ (h ∷ ys)))) below other ends end same =
    let first : 4 * a + c / 16 ≡ 4 * b + d / 16 = cc in
    let second : 16 * (c % 16) + e / 4 ≡ 16 * (d % 16) + f / 4 = cc in
    let third : 64 * (e % 4) + g ≡ 64 * (f % 4) + h = cc in
    let more : octets_of_sixes xs ≡ octets_of_sixes ys = cc in
    let parts = four_same a c e g b d f h below.1.0 below.1.1.0 other.1.0 other.1.1.0 below.1.1.1.0 other.1.1.1.0 first second third in
    let rest = sixes_same xs ys below.1.1.1.1 other.1.1.1.1 ends end more in
    cc (parts.0, parts.1, parts.2, parts.3, rest)

-- one of those passes what all of them pass
one_of_passes : (test : ℕ → Bool) (those : List ℕ) (c : ℕ) → is_one_of those c ≡ true → list_all test those ≡ true → test c ≡ true
one_of_passes test [] c one all = absurd (false≢true one)
one_of_passes test (x ∷ xs) c one all =
    let parts = and_parts (test x) (list_all test xs) all in
    elim (or_cases (eqb c x) (is_one_of xs c) one) [
      | inl same ↦ ap test (eqb-true c x same) ∙ parts.0
      | inr more ↦ one_of_passes test xs c more parts.1
    ]

abbrev is_times_four : ℕ → Bool
is_times_four c = base64_value c % 4 == 0

abbrev is_times_sixteen : ℕ → Bool
is_times_sixteen c = base64_value c % 16 == 0

pub few_fillers : (last n : ℕ) → is_ending last n ≡ true → n ≤ 2
few_fillers last zero is = omega arith
few_fillers last (suc zero) is = omega arith
few_fillers last (suc (suc zero)) is = omega arith
few_fillers last (suc (suc (suc n))) is = absurd (grind (arith, nat_tests, is))

ends_of : (last : ℕ) (digits : List ℕ) (n : ℕ) → (length digits + n) % 4 ≡ 0 → is_ending (last_from last digits) n ≡ true → Ends (map base64_value digits)
ends_of last [] n whole is = tt
ends_of last (a ∷ []) n whole is = absurd (omega (arith, few_fillers a n is))
ends_of last (a ∷ (b ∷ [])) n whole is =
    let two : n ≡ 2 = omega (arith, few_fillers b n is) in
    let one : is_one_of (codes "AQgw") b ≡ true = rw two at is in
    eqb-true (base64_value b % 16) 0 (one_of_passes is_times_sixteen (codes "AQgw") b one refl)
ends_of last (a ∷ (b ∷ (c ∷ []))) n whole is =
    let one : n ≡ 1 = omega (arith, few_fillers c n is) in
    let found : is_one_of (codes "AEIMQUYcgkosw048") c ≡ true = rw one at is in
    eqb-true (base64_value c % 4) 0 (one_of_passes is_times_four (codes "AEIMQUYcgkosw048") c found refl)
ends_of last (a ∷ (b ∷ (c ∷ (d ∷ more)))) n whole is = ends_of d more n (omega (arith, whole)) is

-- a digit's value, and that no other digit has it
pub value_below : (c : ℕ) → is_base64_digit c ≡ true → base64_value c < 64
value_below c is = grind (arith, nat_tests)

digit_value_back : (c : ℕ) → 48 ≤ c → c ≤ 57 → base64_digit (base64_value c) ≡ c
digit_value_back c low high = grind (arith, nat_tests)

upper_back : (c : ℕ) → 65 ≤ c → c ≤ 90 → base64_digit (base64_value c) ≡ c
upper_back c low high = grind (arith, nat_tests)

lower_back : (c : ℕ) → 97 ≤ c → c ≤ 122 → base64_digit (base64_value c) ≡ c
lower_back c low high = grind (arith, nat_tests)

sign_back : (c d : ℕ) → eqb c d ≡ true → base64_digit (base64_value d) ≡ d → base64_digit (base64_value c) ≡ c
sign_back c d same is = rw (eqb-true c d same) is

value_back : (c : ℕ) → is_base64_digit c ≡ true → base64_digit (base64_value c) ≡ c
value_back c is = elim (or_cases _ _ is) [
  | inl letter ↦ elim (or_cases _ _ letter) [
    | inl more ↦ elim (or_cases _ _ more) [
      | inl digit ↦ let p = and_parts _ _ digit in digit_value_back c (leb-true 48 c p.0) (leb-true c 57 p.1)
      | inr upper ↦ let p = and_parts _ _ upper in upper_back c (leb-true 65 c p.0) (leb-true c 90 p.1)
    ]
    | inr lower ↦ let p = and_parts _ _ lower in lower_back c (leb-true 97 c p.0) (leb-true c 122 p.1)
  ]
  | inr sign ↦ elim (or_cases (eqb c 43) (eqb c 47) sign) [ inl plus ↦ sign_back c 43 plus refl | inr slash ↦ sign_back c 47 slash refl ]
]

value_apart : (a b : ℕ) → is_base64_digit a ≡ true → is_base64_digit b ≡ true → base64_value a ≡ base64_value b → a ≡ b
value_apart a b is other same = sym (value_back a is) ∙ ap base64_digit same ∙ value_back b other

pub record IsBase64 (text : List ℕ) : Type 0 where
  pub whole : (length (digits_of text) + length (fillers_of text)) % 4 ≡ 0
  pub digits : list_all is_base64_digit (digits_of text) ≡ true
  pub fillers : list_all is_filler (fillers_of text) ≡ true
  pub ending : is_ending (last_from 0 (digits_of text)) (length (fillers_of text)) ≡ true

pub base64_parts : (text : List ℕ) → is_base64 text ≡ true → IsBase64 text
unfolding is_base64
base64_parts text is =
    let one = and_parts (eqb (length text % 4) 0) (list_all is_base64_digit (digits_of text) && (list_all is_filler (fillers_of text) && is_ending (last_from 0 (digits_of text)) (length (fillers_of text)))) is in
    let two = and_parts (list_all is_base64_digit (digits_of text)) (list_all is_filler (fillers_of text) && is_ending (last_from 0 (digits_of text)) (length (fillers_of text))) one.1 in
    let three = and_parts (list_all is_filler (fillers_of text)) (is_ending (last_from 0 (digits_of text)) (length (fillers_of text))) two.1 in
    let all = sym (length-append (digits_of text) (fillers_of text)) ∙ ap length (take-append-drop (position_or_len is_filler text) text) in
    record { whole = ap (λ n. n % 4) all ∙ eqb-true (length text % 4) 0 one.0; digits = two.0; fillers = three.0; ending = three.1 }

pub base64_count : (text : List ℕ) → length (octets_of_base64 text) ≡ length (digits_of text) - (length (digits_of text) / 4 + min 1 (length (digits_of text) % 4))
base64_count text = sixes_count (map base64_value (digits_of text)) ∙ ap (λ n. n - (n / 4 + min 1 (n % 4))) (length-map (digits_of text) base64_value)

-- fillers are as many as fill the last group up
fillers_same : (xs ys : List ℕ) → list_all is_filler xs ≡ true → list_all is_filler ys ≡ true → length xs ≡ length ys → xs ≡ ys
fillers_same [] [] all other long = refl
fillers_same [] (y ∷ ys) all other long = absurd (omega (arith, long))
fillers_same (x ∷ xs) [] all other long = absurd (omega (arith, long))
fillers_same (x ∷ xs) (y ∷ ys) all other long =
    let a = and_parts (is_filler x) (list_all is_filler xs) all in
    let b = and_parts (is_filler y) (list_all is_filler ys) other in
    let first = eqb-true x 61 a.0 in
    let second = eqb-true y 61 b.0 in
    let more = fillers_same xs ys a.1 b.1 (omega (arith, long)) in
    cc (first, second, more)

pub digits_same : (a b : List ℕ) → is_base64 a ≡ true → is_base64 b ≡ true → octets_of_base64 a ≡ octets_of_base64 b → a ≡ b
digits_same a b is other same =
    let one = base64_parts a is in
    let two = base64_parts b other in
    let values = sixes_same (map base64_value (digits_of a)) (map base64_value (digits_of b)) (map_below base64_value is_base64_digit 64 value_below (digits_of a) one.digits) (map_below base64_value is_base64_digit 64 value_below (digits_of b) two.digits)
    (ends_of 0 (digits_of a) (length (fillers_of a)) one.whole one.ending) (ends_of 0 (digits_of b) (length (fillers_of b)) two.whole two.ending) same in
    let letters : digits_of a ≡ digits_of b = sym (map-id (digits_of a)) ∙ map_follows base64_value (λ x. x) is_base64_digit value_apart (digits_of a) (digits_of b) one.digits two.digits values ∙ map-id (digits_of b) in
    let long : length (fillers_of a) ≡ length (fillers_of b) = omega (arith, ap length letters, one.whole, two.whole, few_fillers (last_from 0 (digits_of a)) (length (fillers_of a)) one.ending, few_fillers (last_from 0 (digits_of b)) (length (fillers_of b)) two.ending) in
    let rest = fillers_same (fillers_of a) (fillers_of b) one.fillers two.fillers long in
    sym (take-append-drop (position_or_len is_filler a) a) ∙ (cc (letters, rest)) ∙ take-append-drop (position_or_len is_filler b) b

-- two texts are the same octets where their characters are the same
pub base64_decides : (a b : List ℕ) → is_base64 a ≡ true → is_base64 b ≡ true → Decides (bytes_eq (octets_of_base64 a) (octets_of_base64 b)) (a ≡ b)
base64_decides a b is other =
    let octets = bytes_eq-Decides (octets_of_base64 a) (octets_of_base64 b) in
    (λ same. digits_same a b is other (octets.0 same), λ same. octets.1 (ap octets_of_base64 same))
