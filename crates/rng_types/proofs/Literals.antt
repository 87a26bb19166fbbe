-- Literals of a number: as many as are wanted, by zeros at their start.
use Rattle.std.specs.Prelude.{◌≡◌, ℕ, suc, ◌+◌, ◌<◌, Bool, true, false, not, ◌==◌, List, [], ◌∷◌, ◌++◌, length, take, drop}
use Rattle.std.proofs.Common.{refl, ap, ◌∙◌, arith, append-nil}
use Rattle.std.proofs.lemmas.Bool.{and_parts, and_from, le-leb, not_from_false, ne_eqb}
use Rattle.std.proofs.Math.Seq.{take-length}
use Rattle.std.proofs.Math.ListN.{drop_of_length-le}
use Rattle.std.specs.List.{list_all, position_or_len}
use Rattle.std.specs.Char.{is_ascii_digit}
use Rattle.std.specs.Str.Parse.{digits_value}
use Rattle.rng_types.specs.Spaces.{is_some_text}
use Rattle.rng_types.specs.Numbers.{Number, number_of, is_digits, is_integer, is_negative, is_point, unsigned, whole_part, fraction_part}
use Rattle.rng_types.proofs.Digits.{Digits, no_digit, more_digits, Digits-from_all, digits_value-value}
use Rattle.rng_types.proofs.Comparing.{point_after_digits}
use Rattle.rng_types.proofs.Written.{fixed, length-fixed, Digits-fixed, value-fixed, below_longer}
use Rattle.rng_types.proofs.Plain.{IsPlain}
use Rattle.rng_types.proofs.Printable.{is_printed, printed-from, plain_printed, some_cons}

pub all_digits : {cs : List ℕ} → Digits cs → list_all is_ascii_digit cs ≡ true
all_digits no_digit = refl
all_digits (more_digits {c = c} {cs = cs} low high more) = and_from _ _ (and_from _ _ (le-leb 48 c low) (le-leb c 57 high)) (all_digits more)

pub digits_printed : {cs : List ℕ} → Digits cs → list_all is_printed cs ≡ true
digits_printed no_digit = refl
digits_printed (more_digits {c = c} {cs = cs} low high more) = and_from _ _ (printed-from c (omega arith) (omega arith)) (digits_printed more)

pub printed-append : (xs ys : List ℕ) → list_all is_printed xs ≡ true → list_all is_printed ys ≡ true → list_all is_printed (xs ++ ys) ≡ true
printed-append [] ys first second = second
printed-append (x ∷ xs) ys first second = let parts = and_parts (is_printed x) (list_all is_printed xs) first in and_from _ _ parts.0 (printed-append xs ys parts.1 second)

pub some_long : (cs : List ℕ) → 0 < length cs → is_some_text cs ≡ true
some_long cs some = not_from_false _ (ne_eqb (length cs) 0 (λ none. absurd (omega (arith, none))))

pub sign : Bool → ℕ
sign true = 45
sign false = 43

unsigned_sign : (negative : Bool) (cs : List ℕ) → unsigned (sign negative ∷ cs) ≡ cs
unfolding sign
unsigned_sign true cs = refl
unsigned_sign false cs = refl

negative_sign : (negative : Bool) (cs : List ℕ) → is_negative (sign negative ∷ cs) ≡ negative
unfolding sign
negative_sign true cs = refl
negative_sign false cs = refl

printed_sign : (negative : Bool) → is_printed (sign negative) ≡ true
unfolding sign
printed_sign true = refl
printed_sign false = refl

-- what digits with a point or none stand for
pub number_same : (a b : Bool) (d e p q : ℕ) → a ≡ b → d ≡ e → p ≡ q → (let x : Number = record { negative = a; digits = d; places = p } in x) ≡ record { negative = b; digits = e; places = q }
number_same a b d e p q first second third = rw (first, second, third) refl

-- digits alone have no fraction
pub whole_alone : (u : List ℕ) → Digits u → take (position_or_len is_point u) u ≡ u
whole_alone u digits = rw (point_after_digits digits) (take-length u)

pub fraction_alone : (u : List ℕ) → Digits u → drop (position_or_len is_point u + 1) u ≡ []
fraction_alone u digits = drop_of_length-le u (omega (arith, point_after_digits digits))

-- the digits of an integer's literal
pub Digits-integer : (text : List ℕ) → is_integer text ≡ true → Digits (unsigned text)
Digits-integer text integer = Digits-from_all (unsigned text) (and_parts (not (length (unsigned text) == 0)) (list_all is_ascii_digit (unsigned text)) integer).1

pub places-integer : (text : List ℕ) → is_integer text ≡ true → (number_of text).places ≡ 0
places-integer text integer = ap length (fraction_alone (unsigned text) (Digits-integer text integer))

-- a whole number's literal, with that many zeros more than need be
pub whole_text : Bool → ℕ → ℕ → List ℕ
whole_text negative d i = sign negative ∷ fixed (d + 1 + i) d

pub unsigned-whole_text : (negative : Bool) (d i : ℕ) → unsigned (whole_text negative d i) ≡ fixed (d + 1 + i) d
unfolding whole_text
unsigned-whole_text negative d i = unsigned_sign negative (fixed (d + 1 + i) d)

pub integer-whole_text : (negative : Bool) (d i : ℕ) → is_integer (whole_text negative d i) ≡ true
integer-whole_text negative d i =
    let u : List ℕ = fixed (d + 1 + i) d in
    ap is_digits (unsigned-whole_text negative d i)
    ∙ and_from (is_some_text u) (list_all is_ascii_digit u) (some_long u (omega (arith, length-fixed (d + 1 + i) d))) (all_digits (Digits-fixed (d + 1 + i) d))

pub number-whole_text : (negative : Bool) (d i : ℕ) → number_of (whole_text negative d i) ≡ record { negative = negative; digits = d; places = 0 }
unfolding whole_text
number-whole_text negative d i =
    let text : List ℕ = sign negative ∷ fixed (d + 1 + i) d in
    let u : List ℕ = fixed (d + 1 + i) d in
    let digits = Digits-fixed (d + 1 + i) d in
    let is : unsigned text ≡ u = unsigned_sign negative u in
    let whole : whole_part text ≡ u = ap (λ (v : List ℕ). take (position_or_len is_point v) v) is ∙ whole_alone u digits in
    let fraction : fraction_part text ≡ [] = ap (λ (v : List ℕ). drop (position_or_len is_point v + 1) v) is ∙ fraction_alone u digits in
    let joined : whole_part text ++ fraction_part text ≡ u = ap (λ (v : List ℕ). v ++ fraction_part text) whole ∙ ap (λ (v : List ℕ). u ++ v) fraction ∙ append-nil u in
    number_same _ negative _ d _ 0 (negative_sign negative u)
    (ap (digits_value 10) joined ∙ digits_value-value digits ∙ value-fixed (d + 1 + i) d (below_longer d i)) (ap length fraction)

pub plain-whole_text : (negative : Bool) (d i : ℕ) → IsPlain (whole_text negative d i)
unfolding whole_text
plain-whole_text negative d i =
    plain_printed (sign negative ∷ fixed (d + 1 + i) d) (some_cons (sign negative) (fixed (d + 1 + i) d)) (and_from _ _ (printed_sign negative) (digits_printed (Digits-fixed (d + 1 + i) d)))

pub apart-whole_text : (negative : Bool) (d i j : ℕ) → whole_text negative d i ≡ whole_text negative d j → i ≡ j
unfolding whole_text
apart-whole_text negative d i j same =
    let long : suc (length (fixed (d + 1 + i) d)) ≡ suc (length (fixed (d + 1 + j) d)) = ap length same in
    omega (arith, long, length-fixed (d + 1 + i) d, length-fixed (d + 1 + j) d)

-- digits before a point
pub point_behind_digits : {cs : List ℕ} (rest : List ℕ) → Digits cs → position_or_len is_point (cs ++ 46 ∷ rest) ≡ length cs
point_behind_digits rest no_digit = refl
point_behind_digits rest (more_digits {c = c} {cs = cs} low high more) =
    let other : (c == 46) ≡ false = ne_eqb c 46 (λ same. absurd (omega (arith, same))) in
    rw (other, point_behind_digits rest more) (omega arith)
