-- The digits of the next number and of the one before.
use Rattle.std.specs.Prelude.{◌≡◌, ◌≢◌, ℕ, zero, suc, ◌+◌, ◌-◌, ◌^◌, ◌<◌, ◌≤◌, ℤ, pos, neg_ℤ, ◌+ℤ◌, Bool, true, false, not, ◌==◌, ◌&&◌, List, [], ◌∷◌, ◌++◌, length, replicate}
use Rattle.std.proofs.Common.{refl, sym, ap, ◌∙◌, arith, append_assoc, length-append}
use Rattle.std.proofs.Math.Nat.{pow-suc}
use Rattle.std.proofs.lemmas.Int.{ints}
use Rattle.std.proofs.lemmas.Bool.{and_parts, and_from, eqb-true, eqb-false, not-false}
use Rattle.std.proofs.lemmas.List.{length-replicate, nil_from_length}
use Rattle.std.specs.List.{list_all, prefix_len}
use Rattle.std.specs.Char.{is_ascii_digit}
use Rattle.std.specs.Str.Parse.{digits_value}
use Rattle.rng_types.specs.Spaces.{is_some_text}
use Rattle.rng_types.specs.Numbers.{is_digits, is_integer, is_negative, is_zero, unsigned, number_of, without_leading_zeros}
use Rattle.rng_types.specs.Offsets.{whole_number}
use Rattle.rng_types.proofs.Digits.{Digits, no_digit, more_digits, Digits-from_all, Digits-append, Digits-first, Digits-second, Digits-drop, value, value-append, digits_value-value, value-without_leading_zeros}
use Rattle.rng_types.proofs.Literals.{all_digits, some_long}
use Rattle.rng_types.proofs.Parted.{Digits-replicate, value-zeros, bare_digits}
use Rattle.rng_types.proofs.Apart.{digits-integer, whole_is}

-- nines
value-nines : (n : ℕ) → value (replicate n 57) + 1 ≡ 10 ^ n
value-nines zero = refl
value-nines (suc n) =
    let before = value-nines n in
    let long : length (replicate {A = ℕ} n 57) ≡ n = length-replicate n 57 in
    rw (long, pow-suc) (omega (arith, before))

-- a carry over nines
carried : (front : List ℕ) (c n : ℕ) → 48 ≤ c → value (front ++ (c + 1) ∷ replicate n 48) ≡ value (front ++ c ∷ replicate n 57) + 1
carried front c n low =
    let zeros = value-zeros n in
    let nines = value-nines n in
    let more : c + 1 - 48 ≡ c - 48 + 1 = omega arith in
    let long : length (replicate {A = ℕ} n 48) ≡ n = length-replicate n 48 in
    let long' : length (replicate {A = ℕ} n 57) ≡ n = length-replicate n 57 in
    rw (value-append front ((c + 1) ∷ replicate n 48), value-append front (c ∷ replicate n 57), long, long', more) (omega (arith, zeros, nines))

is_digits-from : (text : List ℕ) → Digits text → 0 < length text → is_digits text ≡ true
is_digits-from text digits some = and_from (is_some_text text) (list_all is_ascii_digit text) (some_long text some) (all_digits digits)

digits_of : (text : List ℕ) → is_digits text ≡ true → Digits text
digits_of text is = Digits-from_all text (and_parts (not (length text == 0)) (list_all is_ascii_digit text) is).1

-- digits whose last ones are all the same
pub record IsCut (digits front : List ℕ) (last n gone : ℕ) : Type 0 where
  pub is : digits ≡ front ++ last ∷ replicate n gone
  pub low : 48 ≤ last
  pub high : last ≤ 57
  pub front_digits : Digits front

last_low : {c : ℕ} {cs : List ℕ} → Digits (c ∷ cs) → (48 ≤ c) × (c ≤ 57)
last_low (more_digits low high more) = (low, high)

pub cut_at : (digits left front : List ℕ) (last n gone : ℕ) → is_digits digits ≡ true → digits ≡ left ++ replicate n gone → left ≡ front ++ last ∷ [] → IsCut digits front last n gone
cut_at digits left front last n gone are cut split =
    let is : digits ≡ front ++ last ∷ replicate n gone = cut ∙ ap (λ (t : List ℕ). t ++ replicate n gone) split ∙ append_assoc front (last ∷ []) (replicate n gone) in
    let all : Digits (front ++ last ∷ replicate n gone) = rw (sym is) (digits_of digits are) in
    let bounds = last_low (Digits-second front (last ∷ replicate n gone) all) in
    record { is = is; low = bounds.0; high = bounds.1; front_digits = Digits-first front (last ∷ replicate n gone) all }

Digits-ended : (front : List ℕ) (c n filler : ℕ) → Digits front → 48 ≤ c → c ≤ 57 → 48 ≤ filler → filler ≤ 57 → Digits (front ++ c ∷ replicate n filler)
Digits-ended front c n filler digits low high low' high' = Digits-append digits (more_digits low high (Digits-replicate n filler low' high'))

ended_digits : (front : List ℕ) (c n filler : ℕ) → Digits (front ++ c ∷ replicate n filler) → is_digits (front ++ c ∷ replicate n filler) ≡ true
ended_digits front c n filler digits = is_digits-from (front ++ c ∷ replicate n filler) digits (omega (arith, length-append front (c ∷ replicate n filler)))

-- the digits of the next number
abbrev pub IsNext : List ℕ → List ℕ → Type 0
IsNext digits text = (is_digits text ≡ true) × (digits_value 10 text ≡ digits_value 10 digits + 1)

-- nines become zeros, behind a digit one greater
pub raised_some : (digits left front text : List ℕ) (last next n : ℕ) → is_digits digits ≡ true → digits ≡ left ++ replicate n 57 → left ≡ front ++ last ∷ [] → last ≢ 57 → next ≡ last + 1 → text ≡ front ++ next ∷ replicate n 48 → IsNext digits text
raised_some digits left front text last next n are is split other more so =
    let cut = cut_at digits left front last n 57 are is split in
    let small : last + 1 ≤ 57 = omega (arith, cut.high, other) in
    let same : text ≡ front ++ (last + 1) ∷ replicate n 48 = so ∙ ap (λ c. front ++ c ∷ replicate n 48) more in
    let ended = Digits-ended front (last + 1) n 48 cut.front_digits (omega (arith, cut.low)) small (omega arith) (omega arith) in (
      ap is_digits same ∙ ended_digits front (last + 1) n 48 ended,
      ap (digits_value 10) same ∙ digits_value-value ended ∙ carried front last n cut.low
          ∙ ap (λ k. k + 1) (ap value (sym cut.is) ∙ sym (digits_value-value (digits_of digits are))),
    )

none_left : (digits left : List ℕ) (n c : ℕ) → digits ≡ left ++ replicate n c → length left ≡ 0 → digits ≡ replicate n c
none_left digits left n c is none = is ∙ ap (λ (t : List ℕ). t ++ replicate n c) (nil_from_length left none)

pub raised_none : (digits left text : List ℕ) (n : ℕ) → is_digits digits ≡ true → digits ≡ left ++ replicate n 57 → length left ≡ 0 → text ≡ 49 ∷ replicate n 48 → IsNext digits text
raised_none digits left text n are is none so =
    let nines = none_left digits left n 57 is none in
    let ended = Digits-ended [] 49 n 48 no_digit (omega arith) (omega arith) (omega arith) (omega arith) in
    let zeros = value-zeros n in
    let long : length (replicate {A = ℕ} n 48) ≡ n = length-replicate n 48 in
    let total : value (49 ∷ replicate n 48) ≡ value (replicate n 57) + 1 = rw long (omega (arith, zeros, value-nines n)) in (
      ap is_digits so ∙ ended_digits [] 49 n 48 ended,
      ap (digits_value 10) so ∙ digits_value-value ended ∙ total ∙ ap (λ k. k + 1) (ap value (sym nines) ∙ sym (digits_value-value (digits_of digits are))),
    )

-- and zeros nines, behind one that is less
pub lowered_some : (digits left front text : List ℕ) (last less n : ℕ) → is_digits digits ≡ true → digits ≡ left ++ replicate n 48 → left ≡ front ++ last ∷ [] → last ≢ 48 → less ≡ last - 1 → text ≡ front ++ less ∷ replicate n 57 →
    (is_digits text ≡ true) × (digits_value 10 digits ≡ digits_value 10 text + 1)
lowered_some digits left front text last less n are is split other fewer so =
    let cut = cut_at digits left front last n 48 are is split in
    let low : 48 ≤ less = omega (arith, cut.low, other, fewer) in
    let more : last ≡ less + 1 = omega (arith, cut.low, other, fewer) in
    let ended = Digits-ended front less n 57 cut.front_digits low (omega (arith, cut.high, more)) (omega arith) (omega arith) in (
      ap is_digits so ∙ ended_digits front less n 57 ended,
      digits_value-value (digits_of digits are) ∙ ap value (cut.is ∙ ap (λ c. front ++ c ∷ replicate n 48) more)
          ∙ carried front less n low ∙ ap (λ k. k + 1) (sym (digits_value-value ended) ∙ ap (digits_value 10) (sym so)),
    )

pub lowered_none : (digits left : List ℕ) (n : ℕ) → is_digits digits ≡ true → 1 ≤ digits_value 10 digits → digits ≡ left ++ replicate n 48 → length left ≡ 0 → ⊥
lowered_none digits left n are some is none =
    let zero_is : digits_value 10 digits ≡ 0 = digits_value-value (digits_of digits are) ∙ ap value (none_left digits left n 48 is none) ∙ value-zeros n in
    omega (arith, zero_is, some)

-- without zeros at their start
pub tight_digits : (digits text short : List ℕ) → is_digits digits ≡ true → short ≡ without_leading_zeros digits → (length short == 0) ≡ false → text ≡ short → (is_digits text ≡ true) × (digits_value 10 text ≡ digits_value 10 digits)
tight_digits digits text short are is some so =
    let same : text ≡ without_leading_zeros digits = so ∙ is in
    let long : length short ≢ 0 = eqb-false _ 0 some in
    let left = Digits-drop (prefix_len is_zero digits) (digits_of digits are) in (
      ap is_digits same ∙ is_digits-from (without_leading_zeros digits) left (omega (arith, ap length is, long)),
      ap (digits_value 10) same ∙ digits_value-value left ∙ value-without_leading_zeros digits ∙ sym (digits_value-value (digits_of digits are)),
    )

-- ---- with their sign

-- an integer's literal of that number
abbrev pub IsWhole : List ℕ → ℤ → Type 0
IsWhole text z = (is_integer text ≡ true) × (whole_number text ≡ z)

digits_whole : (text : List ℕ) → is_digits text ≡ true → IsWhole text (pos (digits_value 10 text))
digits_whole text are =
    let bare = bare_digits text (digits_of text are) in
    let integer : is_integer text ≡ true = ap is_digits bare.unsigned_is ∙ are in
    (integer, whole_is text false integer bare.plain ∙ ap (λ (t : List ℕ). pos (digits_value 10 t)) bare.unsigned_is)

negative_whole : (text : List ℕ) → is_digits text ≡ true → IsWhole (45 ∷ text) (neg_ℤ (pos (digits_value 10 text)))
negative_whole text are = (are, whole_is (45 ∷ text) true are refl)

zero_whole : (literal : List ℕ) (negative : Bool) → is_integer literal ≡ true → is_negative literal ≡ negative → digits_value 10 (unsigned literal) ≡ 0 → whole_number literal ≡ pos (digits_value 10 (unsigned literal))
zero_whole literal true integer is none = whole_is literal true integer is ∙ ap (λ d. neg_ℤ (pos d)) none ∙ ap pos (sym none)
zero_whole literal false integer is none = whole_is literal false integer is

not_below : (literal : List ℕ) (b : Bool) → is_integer literal ≡ true → is_negative literal ≡ b → (b && not ((number_of literal).digits == 0)) ≡ false → whole_number literal ≡ pos (digits_value 10 (unsigned literal))
not_below literal false integer is none = whole_is literal false integer is
not_below literal true integer is none = zero_whole literal true integer is (sym (digits-integer literal integer) ∙ eqb-true _ 0 (not-false _ none))

-- the next number of one that isn't below zero
pub raised_whole : (literal digits text : List ℕ) → is_integer literal ≡ true → (is_negative literal && not ((number_of literal).digits == 0)) ≡ false → digits ≡ unsigned literal → IsNext digits text → IsWhole text (whole_number literal +ℤ pos 1)
raised_whole literal digits text integer none is next =
    let whole = digits_whole text next.0 in
    let before = not_below literal (is_negative literal) integer refl none in
    let value_is : digits_value 10 text ≡ digits_value 10 (unsigned literal) + 1 = next.1 ∙ ap (λ (t : List ℕ). digits_value 10 t + 1) is in
    (whole.0, whole.1 ∙ omega (arith, ints, before, value_is))

-- and of one that is
pub lowered_whole : (digits less short text : List ℕ) → is_digits digits ≡ true → digits_value 10 digits ≡ digits_value 10 less + 1 → (is_digits short ≡ true) × (digits_value 10 short ≡ digits_value 10 less) → text ≡ 45 ∷ short →
    IsWhole text (whole_number (45 ∷ digits) +ℤ pos 1)
lowered_whole digits less short text are next tight is =
    let whole = negative_whole short tight.0 in
    let before = (negative_whole digits are).1 in
    let same = tight.1 in
    (ap is_integer is ∙ whole.0, ap whole_number is ∙ whole.1 ∙ omega (arith, ints, before, next, same))

pub behind_minus : (literal digits text : List ℕ) → is_integer literal ≡ true → is_negative literal ≡ true → digits ≡ unsigned literal → IsWhole text (whole_number (45 ∷ digits) +ℤ pos 1) → IsWhole text (whole_number literal +ℤ pos 1)
behind_minus literal digits text integer negative is whole =
    let same : whole_number (45 ∷ digits) ≡ whole_number literal = ap (λ (t : List ℕ). whole_number (45 ∷ t)) is ∙ (negative_whole (unsigned literal) integer).1 ∙ sym (whole_is literal true integer negative) in
    (whole.0, whole.1 ∙ ap (λ z. z +ℤ pos 1) same)

pub some_digits : (literal digits : List ℕ) → is_integer literal ≡ true → ((number_of literal).digits == 0) ≡ false → digits ≡ unsigned literal → 1 ≤ digits_value 10 digits
some_digits literal digits integer other is =
    let some : (number_of literal).digits ≢ 0 = eqb-false _ 0 other in
    let same : (number_of literal).digits ≡ digits_value 10 digits = digits-integer literal integer ∙ ap (digits_value 10) (sym is) in
    omega (arith, same, some)
