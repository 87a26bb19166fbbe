-- Names and numbers in references, a step at a time.
use Rattle.std.proofs.Common.{◌≡◌, ℕ, zero, suc, ◌+◌, ◌-◌, ◌<◌, ◌≤◌, true, false, min, cond, None, List, [], ◌∷◌, length, drop, get_or, refl, ap, sym, ◌∙◌, arith, ⊎_elim}
use Rattle.std.proofs.lemmas.Bool.{cases_lt}
use Rattle.std.proofs.lemmas.Bool.Decides.{nat_tests}
use Rattle.std.proofs.lemmas.Grind.{common_steps}
use Rattle.std.proofs.lemmas.List.{drop-drop}
use Rattle.std.specs.Str.{continuation_len}
use Rattle.nx_base.specs.Characters.{is_char, is_name_char}
use Rattle.nx_events.specs.Utf8.{front_char}
use Rattle.nx_events.specs.References.{name_chars_len}
use Rattle.nx_base.specs.CharacterCodes.{char_of_code}

-- the first n bytes are counted, as far as there are any
skip : (n m : ℕ) (bs : List ℕ) → m ≡ min n (length bs) → name_chars_len n bs ≡ m + name_chars_len 0 (drop m bs)
unfolding name_chars_len
skip n zero [] e = omega arith
skip n (suc m) [] e = absurd (omega arith)
skip zero zero (b ∷ bs) e = omega arith
skip zero (suc m) (b ∷ bs) e = absurd (omega arith)
skip (suc n) zero (b ∷ bs) e = absurd (omega arith)
skip (suc n) (suc m) (b ∷ bs) e = let h = skip n m bs (omega arith) in omega arith

at_front : (b : ℕ) (bs : List ℕ) → is_name_char (front_char (b ∷ bs)) ≡ true →
    name_chars_len 0 (b ∷ bs) ≡ suc (name_chars_len (continuation_len b) bs)
unfolding name_chars_len
at_front b bs e = ap (λ t. cond t (suc (name_chars_len (continuation_len b) bs)) 0) e

not_at_front : (b : ℕ) (bs : List ℕ) → is_name_char (front_char (b ∷ bs)) ≡ false → name_chars_len 0 (b ∷ bs) ≡ 0
unfolding name_chars_len
not_at_front b bs e = ap (λ t. cond t (suc (name_chars_len (continuation_len b) bs)) 0) e

one_on : (k m : ℕ) (bs : List ℕ) → suc m ≡ min (suc k) (suc (length bs)) → suc (name_chars_len k bs) ≡ suc m + name_chars_len 0 (drop m bs)
one_on k m bs e = let h = skip k m bs (omega arith) in omega arith

pub front_goes_on : (bs : List ℕ) (m : ℕ) → is_name_char (front_char bs) ≡ true → m ≡ min (suc (continuation_len (get_or bs 0 0))) (length bs) → 0 < m →
    name_chars_len 0 bs ≡ m + name_chars_len 0 (drop m bs)
front_goes_on [] m e g h = absurd (omega arith)
front_goes_on (b ∷ bs) zero e g h = absurd (omega arith)
front_goes_on (b ∷ bs) (suc m) e g h = at_front b bs e ∙ one_on (continuation_len b) m bs g

-- at a name character, and at any other
pub name_goes_on : (bs : List ℕ) (i n k : ℕ) → i < length bs → is_name_char (front_char (drop i bs)) ≡ true →
    k ≡ continuation_len (get_or bs i 0) → n ≡ min (i + 1 + k) (length bs) →
    n + name_chars_len 0 (drop n bs) ≡ i + name_chars_len 0 (drop i bs)
name_goes_on bs i n k h e f g =
    let front : get_or (drop i bs) 0 0 ≡ get_or bs i 0 = grind (arith, common_steps) in
    let long : length (drop i bs) ≡ length bs - i = grind (arith, common_steps) in
    let size : n - i ≡ min (suc k) (length (drop i bs)) = omega arith in
    let size2 : n - i ≡ min (suc (continuation_len (get_or (drop i bs) 0 0))) (length (drop i bs)) = rw (front, ← f) size in
    let on = front_goes_on (drop i bs) (n - i) e size2 (omega arith) in
    let joined : drop (n - i) (drop i bs) ≡ drop n bs = drop-drop (n - i) i bs ∙ ap (λ m. drop m bs) (omega arith) in
    let on2 = ap (λ (x : List ℕ). name_chars_len 0 x) joined in
    omega (arith, on, on2)

pub name_stops : (bs : List ℕ) → is_name_char (front_char bs) ≡ false → name_chars_len 0 bs ≡ 0
unfolding name_chars_len
name_stops [] e = refl
name_stops (b ∷ bs) e = not_at_front b bs e

above : (n : ℕ) → 0x11_0000 ≤ n → char_of_code n ≡ None
unfolding is_char char_of_code
above n h = grind (arith, nat_tests)

pub capped : (n : ℕ) → char_of_code (min n 0x11_0000) ≡ char_of_code n
unfolding is_char char_of_code
capped n = ⊎_elim (λ (h : n < 0x11_0000). let e : min n 0x11_0000 ≡ n = omega arith in ap char_of_code e) (λ (h : 0x11_0000 ≤ n). let e : min n 0x11_0000 ≡ 0x11_0000 = omega arith in ap char_of_code e ∙ above 0x11_0000 (omega arith) ∙ sym (above n h)) (cases_lt n 0x11_0000)

pub name_ends : (bs : List ℕ) (i : ℕ) → length bs ≤ i → name_chars_len 0 (drop i bs) ≡ 0
unfolding name_chars_len
name_ends bs i h = let e : drop i bs ≡ [] = grind (arith, common_steps) in ap (λ (x : List ℕ). name_chars_len 0 x) e
