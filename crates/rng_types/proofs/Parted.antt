-- Literals of numbers by their sign, whole part and fraction.
use Rattle.std.specs.Prelude.{◌≡◌, ℕ, zero, suc, ◌+◌, ◌*◌, ◌^◌, ◌<◌, ◌≤◌, ◌⊎◌, Bool, true, false, not, ◌==◌, if◌then◌else◌, List, [], ◌∷◌, ◌++◌, length, take, drop, replicate}
use Rattle.std.proofs.Common.{refl, sym, ap, ◌∙◌, subst, arith, inl, inr, append_assoc, append-nil, length-append}
use Rattle.std.proofs.Math.Seq.{take-append_seam, drop-append-add}
use Rattle.std.proofs.lemmas.Bool.{and_parts, and_from, or_parts, or_cases, or_right, ne_eqb, eqb-true, cases_lt, false≢true}
use Rattle.std.proofs.lemmas.List.{length-replicate, take_all}
use Rattle.std.proofs.lemmas.List.Folds.{list_any-append}
use Rattle.std.proofs.lemmas.List.Sums.{split_at_first, passes_at_first}
use Rattle.std.specs.List.{list_all, list_any, position_or_len, before_first, after_first}
use Rattle.std.specs.Char.{is_ascii_digit}
use Rattle.std.specs.Str.Parse.{digits_value}
use Rattle.rng_types.specs.Spaces.{is_some_text}
use Rattle.rng_types.specs.Numbers.{Number, number_of, is_sign, is_point, is_digits, is_integer, is_decimal, is_negative, unsigned, whole_part, fraction_part}
use Rattle.rng_types.specs.Giving.{sign_of, zeroed, pointed, three_digits, extended}
use Rattle.rng_types.specs.declared.kind.Word.TheVariants.{Decimal, Integer}
use Rattle.rng_types.proofs.Digits.{Digits, no_digit, more_digits, Digits-from_all, Digits-append, Digits-first, Digits-second, value, value-append, digits_value-value}
use Rattle.rng_types.proofs.Literals.{all_digits, digits_printed, printed-append, some_long, number_same, point_behind_digits, whole_alone, fraction_alone, Digits-integer}
use Rattle.rng_types.proofs.Plain.{IsPlain}
use Rattle.rng_types.proofs.Printable.{is_printed, plain_printed}
use Rattle.rng_types.proofs.Numeric.{Literals}

-- the same digit many times
pub Digits-replicate : (n c : ℕ) → 48 ≤ c → c ≤ 57 → Digits (replicate n c)
Digits-replicate zero c low high = no_digit
Digits-replicate (suc n) c low high = more_digits low high (Digits-replicate n c low high)

pub value-zeros : (n : ℕ) → value (replicate n 48) ≡ 0
value-zeros zero = refl
value-zeros (suc n) = omega (arith, value-zeros n)

-- zeros before digits count for nothing
value-zeroed : (i : ℕ) (ds : List ℕ) → value (replicate i 48 ++ ds) ≡ value ds
value-zeroed i ds = value-append (replicate i 48) ds ∙ ap (λ n. n * 10 ^ length ds + value ds) (value-zeros i) ∙ omega arith

-- ---- signs

sign_case : (b : Bool) (c : ℕ) (cs : List ℕ) → (if b then c ∷ [] else []) ++ (if b then cs else c ∷ cs) ≡ c ∷ cs
sign_case true c cs = refl
sign_case false c cs = refl

pub sign_before : (text : List ℕ) → sign_of text ++ unsigned text ≡ text
sign_before [] = refl
sign_before (c ∷ cs) = sign_case (is_sign c) c cs

-- what has no sign
pub record IsBare (v : List ℕ) : Type 0 where
  pub unsigned_is : unsigned v ≡ v
  pub plain : is_negative v ≡ false

bare_case : (c : ℕ) (cs : List ℕ) → is_sign c ≡ false → IsBare (c ∷ cs)
bare_case c cs none = record { unsigned_is = rw none refl; plain = (or_parts (c == 43) (c == 45) none).1 }

no_sign : (c : ℕ) → 46 ≤ c → is_sign c ≡ false
no_sign c low =
    let plus : (c == 43) ≡ false = ne_eqb c 43 (λ same. absurd (omega (arith, low, same))) in
    let minus : (c == 45) ≡ false = ne_eqb c 45 (λ same. absurd (omega (arith, low, same))) in
    rw (plus, minus) refl

pub bare_digits : (v : List ℕ) → Digits v → IsBare v
bare_digits [] digits = record { unsigned_is = refl; plain = refl }
bare_digits (c ∷ cs) (more_digits low high more) = bare_case c cs (no_sign c (omega (arith, low)))

bare_pointed : (w f : List ℕ) → Digits w → IsBare (w ++ 46 ∷ f)
bare_pointed [] f digits = bare_case 46 f refl
bare_pointed (c ∷ cs) f (more_digits low high more) = bare_case c (cs ++ 46 ∷ f) (no_sign c (omega (arith, low)))

-- a sign before it
pub record IsSigned (text v all : List ℕ) : Type 0 where
  pub unsigned_is : unsigned all ≡ v
  pub sign : is_negative all ≡ is_negative text

signed_case : (b : Bool) (c : ℕ) (cs v : List ℕ) → is_sign c ≡ b → IsBare v → IsSigned (c ∷ cs) v ((if b then c ∷ [] else []) ++ v)
signed_case true c cs v is bare = record { unsigned_is = rw is refl; sign = refl }
signed_case false c cs v is bare = record { unsigned_is = bare.unsigned_is; sign = bare.plain ∙ sym (or_parts (c == 43) (c == 45) is).1 }

pub signed : (text v : List ℕ) → IsBare v → IsSigned text v (sign_of text ++ v)
signed [] v bare = record { unsigned_is = bare.unsigned_is; sign = bare.plain }
signed (c ∷ cs) v bare = signed_case (is_sign c) c cs v refl bare

-- ---- parts

-- digits with a point among or beside them
pub record IsSplit (u w f : List ℕ) : Type 0 where
  pub is : u ≡ w ++ 46 ∷ f
  pub whole : Digits w
  pub fraction : Digits f

abbrev pub Shape : List ℕ → Type 0
Shape u = Digits u ⊎ ((w : List ℕ) × (f : List ℕ) × IsSplit u w f)

shape_of : (u : List ℕ) → Digits (before_first is_point u ++ after_first is_point u) → Shape u
shape_of u digits =
    let w : List ℕ = before_first is_point u in
    let f : List ℕ = after_first is_point u in
    elim (cases_lt (position_or_len is_point u) (length u)) [
      | inl inside ↦
          let point = eqb-true _ 46 (passes_at_first is_point u 0 inside) in
          inr (w, f, record { is = split_at_first is_point u 0 inside ∙ ap (λ c. w ++ c ∷ f) point; whole = Digits-first w f digits; fraction = Digits-second w f digits })
      | inr outside ↦
          let whole : w ≡ u = take_all (position_or_len is_point u) u outside in
          inl (subst Digits whole (Digits-first w f digits))
    ]

pub shape : (text : List ℕ) → is_decimal text ≡ true → Shape (unsigned text)
shape text decimal =
    let all : List ℕ = whole_part text ++ fraction_part text in
    shape_of (unsigned text) (Digits-from_all all (and_parts (not (length all == 0)) (list_all is_ascii_digit all) decimal).1)

-- what they say of a literal
pub record IsParted (text w f : List ℕ) : Type 0 where
  pub whole : whole_part text ≡ w
  pub fraction : fraction_part text ≡ f
  pub whole_digits : Digits w
  pub fraction_digits : Digits f

pub parted_alone : (text u : List ℕ) → unsigned text ≡ u → Digits u → IsParted text u []
parted_alone text u is digits = record {
  whole = ap (before_first is_point) is ∙ whole_alone u digits;
  fraction = ap (after_first is_point) is ∙ fraction_alone u digits;
  whole_digits = digits;
  fraction_digits = no_digit;
}

pub parted_split : (text u w f : List ℕ) → unsigned text ≡ u → IsSplit u w f → IsParted text w f
parted_split text u w f is split =
    let same : unsigned text ≡ w ++ 46 ∷ f = is ∙ split.is in
    let place = point_behind_digits f split.whole in
    record {
      whole = ap (before_first is_point) same ∙ ap (λ n. take n (w ++ 46 ∷ f)) place ∙ take-append_seam w (46 ∷ f);
      fraction = ap (after_first is_point) same ∙ ap (λ n. drop (n + 1) (w ++ 46 ∷ f)) place ∙ drop-append-add w (46 ∷ f) 1;
      whole_digits = split.whole;
      fraction_digits = split.fraction;
    }

pub joined_parts : (text w f : List ℕ) → IsParted text w f → whole_part text ++ fraction_part text ≡ w ++ f
joined_parts text w f parts = ap (λ (t : List ℕ). t ++ fraction_part text) parts.whole ∙ ap (λ (t : List ℕ). w ++ t) parts.fraction

pub decimal_parted : (text w f : List ℕ) → IsParted text w f → 0 < length (w ++ f) → is_decimal text ≡ true
decimal_parted text w f parts some =
    ap is_digits (joined_parts text w f parts)
    ∙ and_from (is_some_text (w ++ f)) (list_all is_ascii_digit (w ++ f)) (some_long (w ++ f) some) (all_digits (Digits-append parts.whole_digits parts.fraction_digits))

pub number_parted : (text w f : List ℕ) (negative : Bool) → is_negative text ≡ negative → IsParted text w f → number_of text ≡ record { negative = negative; digits = value (w ++ f); places = length f }
number_parted text w f negative sign parts =
    number_same _ negative _ (value (w ++ f)) _ (length f) sign
    (ap (digits_value 10) (joined_parts text w f parts) ∙ digits_value-value (Digits-append parts.whole_digits parts.fraction_digits)) (ap length parts.fraction)

some_parts : (text w f : List ℕ) → is_decimal text ≡ true → IsParted text w f → 0 < length (w ++ f)
some_parts text w f decimal parts =
    let all : List ℕ = whole_part text ++ fraction_part text in
    let some : is_some_text all ≡ true = (and_parts (is_some_text all) (list_all is_ascii_digit all) decimal).0 in
    some_of (w ++ f) (ap is_some_text (sym (joined_parts text w f parts)) ∙ some)
  where
    some_of : (xs : List ℕ) → is_some_text xs ≡ true → 0 < length xs
    some_of [] some = absurd (false≢true some)
    some_of (x ∷ xs) some = omega arith

-- ---- zeros behind the sign

-- a literal of the same number
pub record IsZeroed (text all : List ℕ) : Type 0 where
  pub decimal : is_decimal all ≡ true
  pub number : number_of all ≡ number_of text
  pub printed : list_all is_printed all ≡ true

printed_sign : (b : Bool) (c : ℕ) → is_sign c ≡ b → list_all is_printed (if b then c ∷ [] else []) ≡ true
printed_sign false c is = refl
printed_sign true c is = elim (or_cases (c == 43) (c == 45) is) [
  | inl plus ↦ ap (λ d. list_all is_printed (d ∷ [])) (eqb-true c 43 plus)
  | inr minus ↦ ap (λ d. list_all is_printed (d ∷ [])) (eqb-true c 45 minus)
]

printed_sign_of : (text : List ℕ) → list_all is_printed (sign_of text) ≡ true
printed_sign_of [] = refl
printed_sign_of (c ∷ cs) = printed_sign (is_sign c) c refl

zeroed_alone : (i : ℕ) (text : List ℕ) → is_decimal text ≡ true → Digits (unsigned text) → IsZeroed text (zeroed i text)
unfolding zeroed
zeroed_alone i text decimal digits =
    let u : List ℕ = unsigned text in
    let v : List ℕ = replicate i 48 ++ u in
    let more = Digits-append (Digits-replicate i 48 (omega arith) (omega arith)) digits in
    let is = signed text v (bare_digits v more) in
    let before = parted_alone text u refl digits in
    let parts = parted_alone (sign_of text ++ v) v is.unsigned_is more in
    let some = some_parts text u [] decimal before in
    let same : value (v ++ []) ≡ value (u ++ []) = ap value (append-nil v) ∙ value-zeroed i u ∙ ap value (sym (append-nil u)) in
    record {
      decimal = decimal_parted (sign_of text ++ v) v [] parts (omega (arith, some, length-append u [], length-append v [], length-append (replicate i 48) u));
      number =
          number_parted (sign_of text ++ v) v [] (is_negative text) is.sign parts
          ∙ number_same _ _ _ _ 0 0 refl same refl
          ∙ sym (number_parted text u [] (is_negative text) refl before);
      printed = printed-append (sign_of text) v (printed_sign_of text) (digits_printed more);
    }

zeroed_split : (i : ℕ) (text w f : List ℕ) → is_decimal text ≡ true → IsSplit (unsigned text) w f → IsZeroed text (zeroed i text)
unfolding zeroed
zeroed_split i text w f decimal split =
    let u : List ℕ = unsigned text in
    let x : List ℕ = replicate i 48 ++ w in
    let v : List ℕ = replicate i 48 ++ u in
    let more = Digits-append (Digits-replicate i 48 (omega arith) (omega arith)) split.whole in
    let over : v ≡ x ++ 46 ∷ f = ap (λ (t : List ℕ). replicate i 48 ++ t) split.is ∙ sym (append_assoc (replicate i 48) w (46 ∷ f)) in
    let is = signed text v (subst IsBare (sym over) (bare_pointed x f more)) in
    let before = parted_split text u w f refl split in
    let parts = parted_split (sign_of text ++ v) v x f is.unsigned_is (record { is = over; whole = more; fraction = split.fraction }) in
    let some = some_parts text w f decimal before in
    let same : value (x ++ f) ≡ value (w ++ f) = ap value (append_assoc (replicate i 48) w f) ∙ value-zeroed i (w ++ f) in
    record {
      decimal = decimal_parted (sign_of text ++ v) x f parts (omega (arith, some, length-append w f, length-append x f, length-append (replicate i 48) w));
      number =
          number_parted (sign_of text ++ v) x f (is_negative text) is.sign parts
          ∙ number_same _ _ _ _ (length f) (length f) refl same refl
          ∙ sym (number_parted text w f (is_negative text) refl before);
      printed =
          printed-append (sign_of text) v (printed_sign_of text)
          (ap (list_all is_printed) over ∙ printed-append x (46 ∷ f) (digits_printed more) (and_from _ _ refl (digits_printed split.fraction)));
    }

pub zeroed_is : (i : ℕ) (text : List ℕ) → is_decimal text ≡ true → IsZeroed text (zeroed i text)
zeroed_is i text decimal = elim (shape text decimal) [
  | inl digits ↦ zeroed_alone i text decimal digits
  | inr split ↦ zeroed_split i text split.0 split.1 decimal split.2
]

pub zeroed_integer : (i : ℕ) (text : List ℕ) → is_integer text ≡ true → is_integer (zeroed i text) ≡ true
unfolding zeroed
zeroed_integer i text integer =
    let u : List ℕ = unsigned text in
    let v : List ℕ = replicate i 48 ++ u in
    let more = Digits-append (Digits-replicate i 48 (omega arith) (omega arith)) (Digits-integer text integer) in
    let is = signed text v (bare_digits v more) in
    let some : is_some_text u ≡ true = (and_parts (is_some_text u) (list_all is_ascii_digit u) integer).0 in
    ap is_digits is.unsigned_is ∙ and_from (is_some_text v) (list_all is_ascii_digit v) (some_behind i u some) (all_digits more)
  where
    some_behind : (i : ℕ) (u : List ℕ) → is_some_text u ≡ true → is_some_text (replicate i 48 ++ u) ≡ true
    some_behind zero u some = some
    some_behind (suc i) u some = some_long (48 ∷ (replicate i 48 ++ u)) (omega arith)

apart_zeroed : (text : List ℕ) (i j : ℕ) → zeroed i text ≡ zeroed j text → i ≡ j
unfolding zeroed
apart_zeroed text i j same =
    let u : List ℕ = unsigned text in
    let long : (k : ℕ) → length (sign_of text ++ (replicate k 48 ++ u)) ≡ length (sign_of text) + (k + length u) = λ k.
    length-append (sign_of text) (replicate k 48 ++ u) ∙ ap (λ n. length (sign_of text) + n) (length-append (replicate k 48) u ∙ ap (λ n. n + length u) (length-replicate k 48)) in
    omega (arith, sym (long i) ∙ ap length same ∙ long j)

plain_zeroed : (text all : List ℕ) → IsZeroed text all → IsPlain all
plain_zeroed text all is = plain_printed all (some_text all is.decimal) is.printed
  where
    some_text : (all : List ℕ) → is_decimal all ≡ true → is_some_text all ≡ true
    some_text [] decimal = absurd (false≢true decimal)
    some_text (c ∷ cs) decimal = some_long (c ∷ cs) (omega arith)

pub decimal_zeroed : (text : List ℕ) → is_decimal text ≡ true → Literals Decimal (number_of text) (λ i. zeroed i text)
decimal_zeroed text decimal = record {
  plain = λ i. plain_zeroed text (zeroed i text) (zeroed_is i text decimal);
  fits = λ i. (zeroed_is i text decimal).decimal;
  number = λ i. (zeroed_is i text decimal).number;
  apart = apart_zeroed text;
}

pub integer_zeroed : (text : List ℕ) → is_decimal text ≡ true → is_integer text ≡ true → Literals Integer (number_of text) (λ i. zeroed i text)
integer_zeroed text decimal integer = record {
  plain = λ i. plain_zeroed text (zeroed i text) (zeroed_is i text decimal);
  fits = λ i. zeroed_integer i text integer;
  number = λ i. (zeroed_is i text decimal).number;
  apart = apart_zeroed text;
}

-- ---- digits at the end

-- what is put there
pub tail_digits : ℕ → ℕ → List ℕ
tail_digits k n = replicate k 48 ++ three_digits n

pub Digits-tail : (k n : ℕ) → n < 1000 → Digits (tail_digits k n)
unfolding tail_digits
Digits-tail k n small =
    Digits-append (Digits-replicate k 48 (omega arith) (omega arith))
    (more_digits (omega arith) (omega arith) (more_digits (omega arith) (omega arith) (more_digits (omega arith) (omega arith) no_digit)))

pub length-tail : (k n : ℕ) → length (tail_digits k n) ≡ k + 3
unfolding tail_digits
length-tail k n = length-append (replicate k 48) (three_digits n) ∙ ap (λ m. m + 3) (length-replicate k 48)

pub value-tail : (k n : ℕ) → n < 1000 → value (tail_digits k n) ≡ n
unfolding tail_digits
value-tail k n small = value-zeroed k (three_digits n) ∙ omega arith

pub value-tailed : (ds : List ℕ) (k n : ℕ) → n < 1000 → value (ds ++ tail_digits k n) ≡ value ds * 10 ^ (k + 3) + n
value-tailed ds k n small =
    value-append ds (tail_digits k n) ∙ ap (λ m. value ds * 10 ^ m + value (tail_digits k n)) (length-tail k n) ∙ ap (λ m. value ds * 10 ^ (k + 3) + m) (value-tail k n small)

-- a literal with a point
point_in : (w f : List ℕ) → list_any is_point (w ++ 46 ∷ f) ≡ true
point_in w f = list_any-append is_point w (46 ∷ f) ∙ or_right (list_any is_point w) true refl

no_point : {w : List ℕ} → Digits w → list_any is_point w ≡ false
no_point no_digit = refl
no_point (more_digits {c = c} low high more) =
    let other : (c == 46) ≡ false = ne_eqb c 46 (λ same. absurd (omega (arith, low, same))) in
    rw (other, no_point more) refl

no_point_sign : (b : Bool) (c : ℕ) → is_sign c ≡ b → list_any is_point (if b then c ∷ [] else []) ≡ false
no_point_sign false c is = refl
no_point_sign true c is = elim (or_cases (c == 43) (c == 45) is) [
  | inl plus ↦ ap (λ d. list_any is_point (d ∷ [])) (eqb-true c 43 plus)
  | inr minus ↦ ap (λ d. list_any is_point (d ∷ [])) (eqb-true c 45 minus)
]

no_point_sign_of : (text : List ℕ) → list_any is_point (sign_of text) ≡ false
no_point_sign_of [] = refl
no_point_sign_of (c ∷ cs) = no_point_sign (is_sign c) c refl

points : (text : List ℕ) → list_any is_point text ≡ list_any is_point (unsigned text)
points text =
    ap (list_any is_point) (sym (sign_before text)) ∙ list_any-append is_point (sign_of text) (unsigned text) ∙ rw (no_point_sign_of text) refl

-- its parts are those of the literal
pub record IsPointed (text all : List ℕ) : Type 0 where
  pub w : List ℕ
  pub f : List ℕ
  pub is : all ≡ sign_of text ++ (w ++ 46 ∷ f)
  pub whole : Digits w
  pub fraction : Digits f
  pub some : 0 < length (w ++ f)
  pub number : number_of text ≡ record { negative = is_negative text; digits = value (w ++ f); places = length f }

pointed_alone : (text : List ℕ) → is_decimal text ≡ true → Digits (unsigned text) → IsPointed text (pointed text)
unfolding pointed
pointed_alone text decimal digits =
    let u : List ℕ = unsigned text in
    let before = parted_alone text u refl digits in
    record {
      w = u;
      f = [];
      is = rw (points text ∙ no_point digits) (ap (λ (t : List ℕ). t ++ 46 ∷ []) (sym (sign_before text)) ∙ append_assoc (sign_of text) u (46 ∷ []));
      whole = digits;
      fraction = no_digit;
      some = some_parts text u [] decimal before;
      number = number_parted text u [] (is_negative text) refl before;
    }

pointed_split : (text w f : List ℕ) → is_decimal text ≡ true → IsSplit (unsigned text) w f → IsPointed text (pointed text)
unfolding pointed
pointed_split text w f decimal split =
    let before = parted_split text (unsigned text) w f refl split in
    record {
      w = w;
      f = f;
      is = rw (points text ∙ ap (list_any is_point) split.is ∙ point_in w f) (sym (sign_before text) ∙ ap (λ (t : List ℕ). sign_of text ++ t) split.is);
      whole = split.whole;
      fraction = split.fraction;
      some = some_parts text w f decimal before;
      number = number_parted text w f (is_negative text) refl before;
    }

pub pointed_is : (text : List ℕ) → is_decimal text ≡ true → IsPointed text (pointed text)
pointed_is text decimal = elim (shape text decimal) [
  | inl digits ↦ pointed_alone text decimal digits
  | inr split ↦ pointed_split text split.0 split.1 decimal split.2
]

-- a literal with a point, and digits at its end
pub record IsExtended (text all : List ℕ) (k n : ℕ) : Type 0 where
  pub decimal : is_decimal all ≡ true
  pub number : number_of all ≡ record { negative = is_negative text; digits = (number_of text).digits * 10 ^ (k + 3) + n; places = (number_of text).places + (k + 3) }

pub extended_is : (text : List ℕ) (k n : ℕ) → is_decimal text ≡ true → n < 1000 → IsExtended text (extended (pointed text) k n) k n
unfolding extended tail_digits
extended_is text k n decimal small =
    let point = pointed_is text decimal in
    let w : List ℕ = point.w in
    let f : List ℕ = point.f in
    let more : List ℕ = f ++ tail_digits k n in
    let v : List ℕ = w ++ 46 ∷ more in
    let all : List ℕ = pointed text ++ tail_digits k n in
    let behind = Digits-append point.fraction (Digits-tail k n small) in
    let same : all ≡ sign_of text ++ v = ap (λ (t : List ℕ). t ++ tail_digits k n) point.is ∙ append_assoc (sign_of text) (w ++ 46 ∷ f) (tail_digits k n) ∙ ap (λ (t : List ℕ). sign_of text ++ t) (append_assoc w (46 ∷ f) (tail_digits k n)) in
    let is = signed text v (bare_pointed w more point.whole) in
    let parts = parted_split all v w more (ap unsigned same ∙ is.unsigned_is) (record { is = refl; whole = point.whole; fraction = behind }) in
    let total : value (w ++ more) ≡ value (w ++ f) * 10 ^ (k + 3) + n = ap value (sym (append_assoc w f (tail_digits k n))) ∙ value-tailed (w ++ f) k n small in
    let digits : (number_of text).digits ≡ value (w ++ f) = ap (λ (x : Number). x.digits) point.number in
    let places : (number_of text).places ≡ length f = ap (λ (x : Number). x.places) point.number in
    record {
      decimal = decimal_parted all w more parts (omega (arith, length-append w more, length-append f (tail_digits k n), length-tail k n));
      number =
          number_parted all w more (is_negative text) (ap is_negative same ∙ is.sign) parts
          ∙ number_same _ _ _ _ _ _ refl (total ∙ ap (λ d. d * 10 ^ (k + 3) + n) (sym digits)) (length-append f (tail_digits k n) ∙ ap (λ m. length f + m) (length-tail k n) ∙ ap (λ m. m + (k + 3)) (sym places));
    }

-- far below zero: `-1`, and digits at its end
pub record IsFarBelow (all : List ℕ) (k n : ℕ) : Type 0 where
  pub integer : is_integer all ≡ true
  pub number : number_of all ≡ record { negative = true; digits = 10 ^ (k + 3) + n; places = 0 }

pub far_below_is : (k n : ℕ) → n < 1000 → IsFarBelow (extended (45 ∷ 49 ∷ []) k n) k n
unfolding extended tail_digits
far_below_is k n small =
    let u : List ℕ = (49 ∷ []) ++ tail_digits k n in
    let all : List ℕ = 45 ∷ u in
    let digits : Digits u = Digits-append (more_digits (omega arith) (omega arith) no_digit) (Digits-tail k n small) in
    let total : value u ≡ 10 ^ (k + 3) + n = value-tailed (49 ∷ []) k n small ∙ omega arith in
    record {
      integer = and_from (is_some_text u) (list_all is_ascii_digit u) (some_long u (omega arith)) (all_digits digits);
      number = number_parted all u [] true refl (parted_alone all u refl digits) ∙ number_same _ _ _ _ 0 0 refl (ap value (append-nil u) ∙ total) refl;
    }
