-- ASCII at the front of a text: its bytes and its characters are the same there.
use Rattle.std.proofs.Common.{◌≡◌, ℕ, suc, ◌+◌, ◌<◌, ◌≤◌, Bool, true, false, eqb, List, [], ◌∷◌, ◌++◌, length, get_or, take, drop, refl, sym, ap, subst, ◌∙◌, arith, inl, inr}
use Rattle.std.specs.Str.{IsUtf8, chars, encode_utf8_all}
use Rattle.std.specs.Char.{encode_utf8}
use Rattle.std.specs.List.{prefix_len}
use Rattle.std.proofs.lemmas.Str.{chars-nil, chars_past_char, IsUtf8-past_char, encode_ascii, byte_from_char, char_from_byte}
use Rattle.std.proofs.lemmas.List.{get_or-drop, drop-drop, length-drop}
use Rattle.std.proofs.lemmas.Bool.{cases_Bool, eqb-true}

-- a text that isn't empty is a character and a text
pub record Split (bytes : List ℕ) : Type 0 where
  pub c : ℕ
  pub rest : List ℕ
  pub utf8 : IsUtf8 rest
  pub bytes_are : bytes ≡ encode_utf8 c ++ rest
  pub chars_are : chars bytes ≡ c ∷ chars rest

pub split_at_first : (b : ℕ) (bytes : List ℕ) → IsUtf8 (b ∷ bytes) → Split (b ∷ bytes)
split_at_first b bytes ([], (scalars, e)) = absurd cc
split_at_first b bytes (c ∷ cs, (scalars, e)) =
    let rest = encode_utf8_all cs in
    let whole : IsUtf8 (b ∷ bytes) = (c ∷ cs, (scalars, e)) in
    record { c = c; rest = rest; utf8 = IsUtf8-past_char (b ∷ bytes) rest c whole (sym e); bytes_are = sym e; chars_are = chars_past_char (b ∷ bytes) rest c whole (sym e) }

-- the first of them is ASCII
pub ascii_first : (b : ℕ) (bytes : List ℕ) → b < 128 → IsUtf8 (b ∷ bytes) → IsUtf8 bytes × (chars (b ∷ bytes) ≡ b ∷ chars bytes)
ascii_first b bytes low h =
    let e : b ∷ bytes ≡ encode_utf8 b ++ bytes = ap (λ (front : List ℕ). front ++ bytes) (sym (encode_ascii b low)) in
    (IsUtf8-past_char (b ∷ bytes) bytes b h e, chars_past_char (b ∷ bytes) bytes b h e)

-- where its first character is ASCII, so is its first byte, and the other way round
pub same_byte : (b : ℕ) (bytes : List ℕ) (s : Split (b ∷ bytes)) → s.c < 128 → b ≡ s.c
same_byte b bytes s low = byte_from_char (b ∷ bytes) s.rest s.c s.bytes_are low

pub same_char : (b : ℕ) (bytes : List ℕ) (s : Split (b ∷ bytes)) → b < 128 → s.c ≡ b
same_char b bytes s low = char_from_byte (b ∷ bytes) s.rest s.c s.bytes_are low (omega arith)

-- an ASCII character stands first as a byte or not at all
head_same_cons : (a b : ℕ) (bytes : List ℕ) (s : Split (b ∷ bytes)) → a < 128 → eqb s.c a ≡ eqb b a
head_same_cons a b bytes s low =
    elim (cases_Bool (eqb s.c a)) [
      | inl is_so ↦
          let is = eqb-true s.c a is_so in
          let same = same_byte b bytes s (omega arith) in
          ap (λ x. eqb x a) (sym same)
      | inr is_not ↦
          elim (cases_Bool (eqb b a)) [
            | inl is_so ↦
                let is = eqb-true b a is_so in
                ap (λ x. eqb x a) (same_char b bytes s (omega arith))
            | inr other ↦ is_not ∙ sym other
          ]
    ]

pub head_same : (a : ℕ) (bytes : List ℕ) → a < 128 → IsUtf8 bytes → eqb (get_or (chars bytes) 0 0) a ≡ eqb (get_or bytes 0 0) a
head_same a [] low h = rw chars-nil refl
head_same a (b ∷ bytes) low h = let s = split_at_first b bytes h in rw s.chars_are (head_same_cons a b bytes s low)

-- so many ASCII characters stand first, and a text behind them
pub record AsciiFront (n : ℕ) (bytes : List ℕ) : Type 0 where
  pub within : n ≤ length bytes
  pub utf8 : IsUtf8 (drop n bytes)
  pub behind : drop n (chars bytes) ≡ chars (drop n bytes)

pub ascii_none : (bytes : List ℕ) → IsUtf8 bytes → AsciiFront 0 bytes
ascii_none bytes h = record { within = omega arith; utf8 = h; behind = refl }

pub ascii_cons : (b : ℕ) (bytes : List ℕ) (n : ℕ) → b < 128 → IsUtf8 (b ∷ bytes) → AsciiFront n bytes → AsciiFront (suc n) (b ∷ bytes)
ascii_cons b bytes n low h front =
    let parts = ascii_first b bytes low h in
    record { within = let within = front.within in omega arith; utf8 = front.utf8; behind = ap (drop (suc n)) parts.1 ∙ front.behind }

-- some, and some behind them
pub ascii_then : (bytes : List ℕ) (m n : ℕ) → AsciiFront m bytes → AsciiFront n (drop m bytes) → AsciiFront (m + n) bytes
ascii_then bytes m n front more =
    let short = more.within in
    let long = length-drop m bytes in
    let first = front.within in
    record {
      within = omega (arith, short, long, first);
      utf8 = subst IsUtf8 (drop-drop n m bytes) more.utf8;
      behind = sym (drop-drop n m (chars bytes)) ∙ ap (drop n) front.behind ∙ more.behind ∙ ap chars (drop-drop n m bytes);
    }

ascii_head : (a : ℕ) (bytes : List ℕ) → 0 < a → a < 128 → IsUtf8 bytes → eqb (get_or bytes 0 0) a ≡ true → AsciiFront 1 bytes
ascii_head a [] some low h is = let e = eqb-true 0 a is in absurd (omega arith)
ascii_head a (b ∷ bytes) some low h is =
    let e = eqb-true b a is in
    let parts = ascii_first b bytes (omega arith) h in
    ascii_cons b bytes 0 (omega arith) h (ascii_none bytes parts.0)

-- an ASCII character more
pub ascii_at : (a : ℕ) (bytes : List ℕ) (n : ℕ) → 0 < a → a < 128 → AsciiFront n bytes → eqb (get_or bytes n 0) a ≡ true → AsciiFront (n + 1) bytes
ascii_at a bytes n some low front is =
    let in_bytes : get_or (drop n bytes) 0 0 ≡ get_or bytes n 0 = get_or-drop n bytes 0 0 ∙ ap (λ i. get_or bytes i 0) (omega arith) in
    ascii_then bytes n 1 front (ascii_head a (drop n bytes) some low front.utf8 (ap (λ x. eqb x a) in_bytes ∙ is))

-- and which one it is
pub at_same : (a : ℕ) (bytes : List ℕ) (n : ℕ) → a < 128 → AsciiFront n bytes → eqb (get_or (chars bytes) n 0) a ≡ eqb (get_or bytes n 0) a
at_same a bytes n low front =
    let in_chars : get_or (drop n (chars bytes)) 0 0 ≡ get_or (chars bytes) n 0 = get_or-drop n (chars bytes) 0 0 ∙ ap (λ i. get_or (chars bytes) i 0) (omega arith) in
    let in_bytes : get_or (drop n bytes) 0 0 ≡ get_or bytes n 0 = get_or-drop n bytes 0 0 ∙ ap (λ i. get_or bytes i 0) (omega arith) in
    ap (λ x. eqb x a) (sym in_chars ∙ ap (λ (t : List ℕ). get_or t 0 0) front.behind) ∙ head_same a (drop n bytes) low front.utf8 ∙ ap (λ x. eqb x a) in_bytes

-- where only ASCII passes a test
pub record SameFront (p : ℕ → Bool) (bytes : List ℕ) : Type 0 where
  pub len : prefix_len p (chars bytes) ≡ prefix_len p bytes
  pub same : take (prefix_len p bytes) (chars bytes) ≡ take (prefix_len p bytes) bytes
  pub front : AsciiFront (prefix_len p bytes) bytes

front_same_cons : (p : ℕ → Bool) → ((c : ℕ) → p c ≡ true → c < 128) → (b : ℕ) (bytes : List ℕ) → IsUtf8 (b ∷ bytes) → (test : Bool) → p b ≡ test → (IsUtf8 bytes → SameFront p bytes) → SameFront p (b ∷ bytes)
front_same_cons p low b bytes h true e more =
    let parts = ascii_first b bytes (low b e) h in
    let found = more parts.0 in
    let n : 1 + prefix_len p bytes ≡ suc (prefix_len p bytes) = omega arith in
    record {
      len = rw (parts.1, e, found.len) refl;
      same = rw (e, n, parts.1) (ap (λ (t : List ℕ). b ∷ t) found.same);
      front = rw (e, n) (ascii_cons b bytes (prefix_len p bytes) (low b e) h found.front);
    }
front_same_cons p low b bytes h false e more =
    let s = split_at_first b bytes h in
    let none : p s.c ≡ false = elim (cases_Bool (p s.c)) [
      | inl is_so ↦ let same = same_byte b bytes s (low s.c is_so) in absurd cc
      | inr is_not ↦ is_not
    ] in
    record { len = rw (s.chars_are, none, e) refl; same = rw e refl; front = rw e (ascii_none (b ∷ bytes) h) }

pub front_same : (p : ℕ → Bool) → ((c : ℕ) → p c ≡ true → c < 128) → (bytes : List ℕ) → IsUtf8 bytes → SameFront p bytes
front_same p low [] h = record { len = rw chars-nil refl; same = refl; front = ascii_none [] h }
front_same p low (b ∷ bytes) h = front_same_cons p low b bytes h (p b) refl (front_same p low bytes)
