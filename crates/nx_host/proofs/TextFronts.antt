-- How many bytes of what begins with no character are the front of some text (Unicode, table 3-7).
use Rattle.std.proofs.Common.{◌≡◌, ℕ, ◌+◌, ◌-◌, ◌*◌, ◌/◌, ◌%◌, ◌<◌, ◌≤◌, Bool, true, false, cond, eqb, ltb, leb, List, [], ◌∷◌, ◌++◌, length, get_or, take, drop, Option, Some, None, refl, sym, ap, subst, ◌∙◌, arith, inl, inr, append_assoc}
use lib.Utf8.{scalar, scalars, encode, encodes, low_scalar, scalar_cases}
use Rattle.std.specs.Char.{IsScalar}
use Rattle.std.specs.Int.{IsInRange, is_in_range}
use Rattle.std.specs.Str.{IsUtf8, IsValidUpTo, IsCharBoundary}
use Rattle.std.specs.Str.Lossy.{second_byte_min, second_byte_max, error_len_after_two, error_len_after_one, utf8_error_len}
use Rattle.std.proofs.Math.Seq.{take-add}
use Rattle.std.proofs.lemmas.Bool.{cases_lt, cases_eq, lt-ltb, le-ltb, le-leb, ne_eqb, cond_both, eqb-true, eqb-false, ltb-true, ltb-false, leb-true, and_parts, and_from}
use Rattle.std.proofs.lemmas.List.{length-append, length-take-le, length-drop, take-append-le, take-take, take_all, take_at, drop_at, get_or-take, get_or-drop}
use Rattle.std.proofs.lemmas.Str.{IsUtf8-encode, IsUtf8-append, IsUtf8-nil, IsUtf8-drop, IsCharBoundary-from_take, length-encode, len_utf8_bounds}
use Rattle.nx_host.specs.Utf8.{IsTextFront, StopsBeingText}

-- ---- what a character's bytes are

-- the first byte of a character of more bytes than one, and what may follow it
abbrev Leads : ℕ → Type 0
Leads x = IsInRange 0xC2 0xF4 x

abbrev Follows : ℕ → ℕ → Type 0
Follows x y = IsInRange (second_byte_min x) (second_byte_max x) y

abbrev Continues : ℕ → Type 0
Continues z = IsInRange 0x80 0xBF z

follows : (x y : ℕ) → (x ≡ 0xE0 → 0xA0 ≤ y) → (x ≡ 0xF0 → 0x90 ≤ y) → (x ≡ 0xED → y ≤ 0x9F) → (x ≡ 0xF4 → y ≤ 0x8F) → Continues y → Follows x y
follows x y a b c d (low, high) =
    let P : ℕ → Type 0 = λ n. n ≤ y in
    let Q : ℕ → Type 0 = λ n. y ≤ n in (
      cond_both (eqb x 0xE0) 0xA0 (cond (eqb x 0xF0) 0x90 0x80) P (λ t. a (eqb-true x 0xE0 t)) (λ _. cond_both (eqb x 0xF0) 0x90 0x80 P (λ t. b (eqb-true x 0xF0 t)) (λ _. low)),
      cond_both (eqb x 0xED) 0x9F (cond (eqb x 0xF4) 0x8F 0xBF) Q (λ t. c (eqb-true x 0xED t)) (λ _. cond_both (eqb x 0xF4) 0x8F 0xBF Q (λ t. d (eqb-true x 0xF4 t)) (λ _. high)),
    )

record CharBytes (bytes : List ℕ) : Type 0 where
  second : 1 < length bytes → Leads (get_or bytes 0 0) × Follows (get_or bytes 0 0) (get_or bytes 1 0)
  third : 2 < length bytes → Continues (get_or bytes 2 0)
  short : length bytes ≤ 4

one : (c : ℕ) → c < 128 → encode c ≡ c ∷ []
unfolding encode
one c a = rw (lt-ltb c 128 a) refl

two : (c : ℕ) → 128 ≤ c → c < 2048 → encode c ≡ (192 + c / 64) ∷ (128 + c % 64) ∷ []
unfolding encode
two c a b = rw (le-ltb c 128 a, lt-ltb c 2048 b) refl

three : (c : ℕ) → 2048 ≤ c → c < 65536 → encode c ≡ (224 + c / 4096) ∷ (128 + (c / 64) % 64) ∷ (128 + c % 64) ∷ []
unfolding encode
three c a b = let d : 128 ≤ c = omega arith in rw (le-ltb c 128 d, le-ltb c 2048 a, lt-ltb c 65536 b) refl

four : (c : ℕ) → 65536 ≤ c → encode c ≡ (240 + c / 262144) ∷ (128 + (c / 4096) % 64) ∷ (128 + (c / 64) % 64) ∷ (128 + c % 64) ∷ []
unfolding encode
four c a =
    let d : 128 ≤ c = omega arith in
    let e : 2048 ≤ c = omega arith in
    rw (le-ltb c 128 d, le-ltb c 2048 e, le-ltb c 65536 a) refl

three_high : (c : ℕ) → IsScalar c → 224 + c / 4096 ≡ 0xED → 128 + (c / 64) % 64 ≤ 0x9F
three_high c s e = elim (scalar_cases c s) [ inl low ↦ omega arith | inr high ↦ absurd (omega arith) ]

scalar_top : (c : ℕ) → IsScalar c → c < 1114112
scalar_top c s = elim (scalar_cases c s) [ inl low ↦ omega arith | inr high ↦ high.1 ]

follow_two : (c : ℕ) → 128 ≤ c → c < 2048 → Follows (192 + c / 64) (128 + c % 64)
follow_two c a b = follows (192 + c / 64) (128 + c % 64) (λ e. absurd (omega arith)) (λ e. absurd (omega arith)) (λ e. absurd (omega arith)) (λ e. absurd (omega arith)) (omega arith, omega arith)

follow_three : (c : ℕ) → IsScalar c → 2048 ≤ c → c < 65536 → Follows (224 + c / 4096) (128 + (c / 64) % 64)
follow_three c s a b = follows (224 + c / 4096) (128 + (c / 64) % 64) (λ e. omega arith) (λ e. absurd (omega arith)) (three_high c s) (λ e. absurd (omega arith)) (omega arith, omega arith)

follow_four : (c : ℕ) → c < 1114112 → 65536 ≤ c → Follows (240 + c / 262144) (128 + (c / 4096) % 64)
follow_four c b a = follows (240 + c / 262144) (128 + (c / 4096) % 64) (λ e. absurd (omega arith)) (λ e. omega arith) (λ e. absurd (omega arith)) (λ e. omega arith) (omega arith, omega arith)

char_bytes : (c : ℕ) → IsScalar c → CharBytes (encode c)
char_bytes c s = elim (cases_lt c 128) [
  | inl a ↦ subst CharBytes (sym (one c a)) (record { second = λ h. absurd (omega arith); third = λ h. absurd (omega arith); short = omega arith })
  | inr a ↦ elim (cases_lt c 2048) [
    | inl b ↦ subst CharBytes (sym (two c a b)) (record {
      second = λ h. ((omega arith, omega arith), follow_two c a b);
      third = λ h. absurd (omega arith);
      short = omega arith;
    })
    | inr b ↦ elim (cases_lt c 65536) [
      | inl d ↦ subst CharBytes (sym (three c b d)) (record {
        second = λ h. ((omega arith, omega arith), follow_three c s b d);
        third = λ h. (omega arith, omega arith);
        short = omega arith;
      })
      | inr d ↦ let top = scalar_top c s in subst CharBytes (sym (four c d)) (record {
        second = λ h. ((omega arith, omega arith), follow_four c top d);
        third = λ h. (omega arith, omega arith);
        short = omega arith;
      })
    ]
  ]
]

-- ---- a character that begins with given bytes

is_text : (c : ℕ) (bytes : List ℕ) → IsScalar c → encode c ≡ bytes → IsUtf8 bytes
is_text c bytes s e = subst IsUtf8 e (IsUtf8-encode c s)

high_scalar : (c : ℕ) → 57344 ≤ c → c < 1114112 → scalar c ≡ true
high_scalar c a b = let d : 55296 ≤ c = omega arith in rw (le-ltb c 55296 d, le-leb 57344 c a, lt-ltb c 1114112 b) refl

text_of_two : (x y : ℕ) → 0xC2 ≤ x → x < 0xE0 → Continues y → IsUtf8 (x ∷ y ∷ [])
text_of_two x y a b (l, h) =
    let c = (x - 192) * 64 + (y - 128) in
    let p : 192 + c / 64 ≡ x = omega arith in
    let q : 128 + c % 64 ≡ y = omega arith in
    is_text c (x ∷ y ∷ []) (low_scalar c (omega arith)) (two c (omega arith) (omega arith) ∙ (λ k. p k ∷ q k ∷ []))

-- what `Follows` asks of a second byte
min_bounds : (x y : ℕ) (first fourth : Bool) → eqb x 0xE0 ≡ first → eqb x 0xF0 ≡ fourth → cond first 0xA0 (cond fourth 0x90 0x80) ≤ y → (0x80 ≤ y) × (x ≡ 0xE0 → 0xA0 ≤ y) × (x ≡ 0xF0 → 0x90 ≤ y)
min_bounds x y true fourth e f h = (omega arith, λ k. h, λ k. omega arith)
min_bounds x y false true e f h = (omega arith, λ k. absurd (eqb-false x 0xE0 e k), λ k. h)
min_bounds x y false false e f h = (h, λ k. absurd (eqb-false x 0xE0 e k), λ k. absurd (eqb-false x 0xF0 f k))

max_bounds : (x y : ℕ) (first fourth : Bool) → eqb x 0xED ≡ first → eqb x 0xF4 ≡ fourth → y ≤ cond first 0x9F (cond fourth 0x8F 0xBF) → (y ≤ 0xBF) × (x ≡ 0xED → y ≤ 0x9F) × (x ≡ 0xF4 → y ≤ 0x8F)
max_bounds x y true fourth e f h = let is = eqb-true x 0xED e in (omega arith, λ k. h, λ k. absurd (omega arith))
max_bounds x y false true e f h = (omega arith, λ k. absurd (eqb-false x 0xED e k), λ k. h)
max_bounds x y false false e f h = (h, λ k. absurd (eqb-false x 0xED e k), λ k. absurd (eqb-false x 0xF4 f k))

text_of_three : (x y z : ℕ) → 0xE0 ≤ x → x < 0xF0 → Follows x y → Continues z → IsUtf8 (x ∷ y ∷ z ∷ [])
text_of_three x y z a b (least, most) (l, h) =
    let c = (x - 224) * 4096 + (y - 128) * 64 + (z - 128) in
    let low = min_bounds x y (eqb x 0xE0) (eqb x 0xF0) refl refl least in
    let high = max_bounds x y (eqb x 0xED) (eqb x 0xF4) refl refl most in
    let p : 224 + c / 4096 ≡ x = omega arith in
    let q : 128 + (c / 64) % 64 ≡ y = omega arith in
    let r : 128 + c % 64 ≡ z = omega arith in
    let long : 2048 ≤ c = elim (cases_eq x 0xE0) [ inl e ↦ let k = low.1 e in omega arith | inr n ↦ omega arith ] in
    let scalar_is : scalar c ≡ true = elim (cases_lt x 0xED) [
      | inl lt ↦ low_scalar c (omega arith)
      | inr ge ↦ elim (cases_eq x 0xED) [ inl e ↦ let k = high.1 e in low_scalar c (omega arith) | inr n ↦ high_scalar c (omega arith) (omega arith) ]
    ] in
    is_text c (x ∷ y ∷ z ∷ []) scalar_is (three c long (omega arith) ∙ (λ k. p k ∷ q k ∷ r k ∷ []))

text_of_four : (x y z w : ℕ) → 0xF0 ≤ x → x ≤ 0xF4 → Follows x y → Continues z → Continues w → IsUtf8 (x ∷ y ∷ z ∷ w ∷ [])
text_of_four x y z w a b (least, most) (l, h) (l', h') =
    let c = (x - 240) * 262144 + (y - 128) * 4096 + (z - 128) * 64 + (w - 128) in
    let low = min_bounds x y (eqb x 0xE0) (eqb x 0xF0) refl refl least in
    let high = max_bounds x y (eqb x 0xED) (eqb x 0xF4) refl refl most in
    let p : 240 + c / 262144 ≡ x = omega arith in
    let q : 128 + (c / 4096) % 64 ≡ y = omega arith in
    let r : 128 + (c / 64) % 64 ≡ z = omega arith in
    let t : 128 + c % 64 ≡ w = omega arith in
    let long : 65536 ≤ c = elim (cases_eq x 0xF0) [ inl e ↦ let k = low.2 e in omega arith | inr n ↦ omega arith ] in
    let top : c < 1114112 = elim (cases_eq x 0xF4) [ inl e ↦ let k = high.2 e in omega arith | inr n ↦ omega arith ] in
    is_text c (x ∷ y ∷ z ∷ w ∷ []) (high_scalar c (omega arith) top) (four c long ∙ (λ k. p k ∷ q k ∷ r k ∷ t k ∷ []))

-- ---- fronts of texts

-- the first byte of a longer character is the front of one
least_follows : (x : ℕ) → Follows x (second_byte_min x)
least_follows x =
    let y = second_byte_min x in
    let low = min_bounds x y (eqb x 0xE0) (eqb x 0xF0) refl refl (omega arith) in
    let P : ℕ → Type 0 = λ n. n ≤ 0xBF in
    let third : ℕ → Type 0 = λ n. second_byte_min n ≤ 0x9F in
    let fourth : ℕ → Type 0 = λ n. second_byte_min n ≤ 0x8F in
    let most : y ≤ 0xBF = cond_both (eqb x 0xE0) 0xA0 (cond (eqb x 0xF0) 0x90 0x80) P (λ _. omega arith) (λ _. cond_both (eqb x 0xF0) 0x90 0x80 P (λ _. omega arith) (λ _. omega arith)) in
    follows x y low.1 low.2 (λ e. subst third (sym e) (omega arith)) (λ e. subst fourth (sym e) (omega arith)) (low.0, most)

follows_continues : (x y : ℕ) → Follows x y → Continues y
follows_continues x y (least, most) =
    ((min_bounds x y (eqb x 0xE0) (eqb x 0xF0) refl refl least).0, (max_bounds x y (eqb x 0xED) (eqb x 0xF4) refl refl most).0)

-- the front of a list whose length is known to be enough
take_one : (r : List ℕ) → 0 < length r → take 1 r ≡ get_or r 0 0 ∷ []
take_one [] h = absurd (omega arith)
take_one (x ∷ r) h = refl

take_two : (r : List ℕ) → 1 < length r → take 2 r ≡ get_or r 0 0 ∷ get_or r 1 0 ∷ []
take_two [] h = absurd (omega arith)
take_two (x ∷ []) h = absurd (omega arith)
take_two (x ∷ y ∷ r) h = refl

take_three : (r : List ℕ) → 2 < length r → take 3 r ≡ get_or r 0 0 ∷ get_or r 1 0 ∷ get_or r 2 0 ∷ []
take_three [] h = absurd (omega arith)
take_three (x ∷ []) h = absurd (omega arith)
take_three (x ∷ y ∷ []) h = absurd (omega arith)
take_three (x ∷ y ∷ z ∷ r) h = refl

-- what stands behind a text in a text is one
text_behind : (front back : List ℕ) → IsUtf8 front → IsUtf8 (front ++ back) → IsUtf8 back
text_behind front back a h =
    let n = length front in
    let cut : take n (front ++ back) ≡ front = take_at front back n refl in
    let place : IsCharBoundary (front ++ back) n = IsCharBoundary-from_take (front ++ back) n h (omega (arith, length-append front back)) (subst IsUtf8 (sym cut) a) in
    subst IsUtf8 (drop_at front back n refl) (IsUtf8-drop (front ++ back) n h place)

front_of_one : (x : ℕ) → Leads x → IsTextFront (x ∷ [])
front_of_one x (low, high) = elim (cases_lt x 0xE0) [
  | inl two ↦ (0x80 ∷ [], text_of_two x 0x80 low two (omega arith, omega arith))
  | inr more ↦ let y = second_byte_min x in elim (cases_lt x 0xF0) [
    | inl three ↦ (y ∷ 0x80 ∷ [], text_of_three x y 0x80 more three (least_follows x) (omega arith, omega arith))
    | inr four ↦ (y ∷ 0x80 ∷ 0x80 ∷ [], text_of_four x y 0x80 0x80 four high (least_follows x) (omega arith, omega arith) (omega arith, omega arith))
  ]
]

-- two bytes of one, of three bytes or more
front_of_two : (x y : ℕ) → 0xE0 ≤ x → x ≤ 0xF4 → Follows x y → IsTextFront (x ∷ y ∷ [])
front_of_two x y low high f = elim (cases_lt x 0xF0) [
  | inl three ↦ (0x80 ∷ [], text_of_three x y 0x80 low three f (omega arith, omega arith))
  | inr four ↦ (0x80 ∷ 0x80 ∷ [], text_of_four x y 0x80 0x80 four high f (omega arith, omega arith) (omega arith, omega arith))
]

-- three bytes of one, of four
front_of_three : (x y z : ℕ) → 0xF0 ≤ x → x ≤ 0xF4 → Follows x y → Continues z → IsTextFront (x ∷ y ∷ z ∷ [])
front_of_three x y z low high f g = (0x80 ∷ [], text_of_four x y z 0x80 low high f g (omega arith, omega arith))

-- ---- bytes with which no character begins

-- no front of the bytes but the empty one is a text
abbrev BeginsNoText : List ℕ → Type 0
BeginsNoText r = (n : ℕ) → 0 < n → ¬ (IsUtf8 (take n r))

-- the first k bytes are the front of some text, and no more of them are
record FrontAt (r : List ℕ) (k : ℕ) : Type 0 where
  within : k ≤ length r
  front : IsTextFront (take k r)
  longest : (m : ℕ) → k < m → m ≤ length r → ¬ (IsTextFront (take m r))

-- a front of some text has its bytes from a character that is longer
record Begun (r : List ℕ) (m : ℕ) : Type 0 where
  char_is : List ℕ
  bytes : CharBytes char_is
  longer : m < length char_is
  same : (i : ℕ) → i < m → get_or r i 0 ≡ get_or char_is i 0

begun : (r : List ℕ) (m : ℕ) → BeginsNoText r → 0 < m → m ≤ length r → IsTextFront (take m r) → Begun r m
begun r m none some within (rest, ([], (s, e))) = absurd (omega (arith, ap length e, length-append (take m r) rest, length-take-le m r within))
begun r m none some within (rest, (c ∷ cs, (s, e))) =
    let parts = and_parts (scalar c) (scalars cs) s in
    let w = length (encode c) in
    let front : (i : ℕ) → i ≤ w → i ≤ m → take i (encode c) ≡ take i r = λ i a b.
    sym (take-append-le i (encode c) (encodes cs) a) ∙ ap (take i) e ∙ take-append-le i (take m r) rest (omega (arith, length-take-le m r within)) ∙ take-take i m r b in
    elim (cases_lt m w) [
      | inl longer ↦ record {
        char_is = encode c;
        bytes = char_bytes c parts.0;
        longer = longer;
        same = λ i lt.
            let whole : take m (encode c) ≡ take m r = front m (omega arith) (omega arith) in
            sym (get_or-take m r i 0 lt) ∙ ap (λ l. get_or l i 0) (sym whole) ∙ get_or-take m (encode c) i 0 lt;
      }
      | inr fits ↦
          let whole : encode c ≡ take w r = sym (take_all w (encode c) (omega arith)) ∙ front w (omega arith) fits in
          absurd (none w (omega (arith, length-encode c, (len_utf8_bounds c).0)) (subst IsUtf8 whole (IsUtf8-encode c parts.0)))
    ]

at_no_lead : (r : List ℕ) → BeginsNoText r → ¬ (Leads (get_or r 0 0)) → FrontAt r 0
at_no_lead r none wrong = record {
  within = omega arith;
  front = ([], IsUtf8-nil);
  longest = λ m more fits h.
      let b = begun r m none more fits h in
      let least = b.longer in
      let lead = b.bytes.second (omega arith) in
      wrong (subst Leads (sym (b.same 0 more)) lead.0);
}

at_one : (r : List ℕ) → BeginsNoText r → 0 < length r → Leads (get_or r 0 0) → (1 < length r → ¬ (Follows (get_or r 0 0) (get_or r 1 0))) → FrontAt r 1
at_one r none some lead wrong = record {
  within = omega arith;
  front = subst IsTextFront (sym (take_one r some)) (front_of_one (get_or r 0 0) lead);
  longest = λ m more fits h.
      let b = begun r m none (omega arith) fits h in
      let least = b.longer in
      let next = b.bytes.second (omega arith) in
      let F : ℕ → Type 0 = λ x. Follows x (get_or r 1 0) in
      wrong (omega arith) (subst F (sym (b.same 0 (omega arith))) (subst (Follows (get_or b.char_is 0 0)) (sym (b.same 1 more)) next.1));
}

at_two : (r : List ℕ) → BeginsNoText r → 1 < length r → Leads (get_or r 0 0) → Follows (get_or r 0 0) (get_or r 1 0) → (2 < length r → ¬ (Continues (get_or r 2 0))) → FrontAt r 2
at_two r none some lead follow wrong = record {
  within = omega arith;
  front = subst IsTextFront (sym (take_two r some)) (elim (cases_lt (get_or r 0 0) 0xE0) [
    | inl short ↦ absurd (none 2 (omega arith) (subst IsUtf8 (sym (take_two r some)) (text_of_two (get_or r 0 0) (get_or r 1 0) lead.0 short (follows_continues (get_or r 0 0) (get_or r 1 0) follow))))
    | inr more ↦ front_of_two (get_or r 0 0) (get_or r 1 0) more lead.1 follow
  ]);
  longest = λ m more fits h.
      let b = begun r m none (omega arith) fits h in
      let least = b.longer in
      wrong (omega arith) (subst Continues (sym (b.same 2 more)) (b.bytes.third (omega arith)));
}

at_three : (r : List ℕ) → BeginsNoText r → 2 < length r → Leads (get_or r 0 0) → Follows (get_or r 0 0) (get_or r 1 0) → Continues (get_or r 2 0) → FrontAt r 3
at_three r none some lead follow goes_on = record {
  within = omega arith;
  front = subst IsTextFront (sym (take_three r some)) (elim (cases_lt (get_or r 0 0) 0xE0) [
    | inl short ↦ absurd (none 2 (omega arith) (subst IsUtf8 (sym (take_two r (omega arith))) (text_of_two (get_or r 0 0) (get_or r 1 0) lead.0 short (follows_continues (get_or r 0 0) (get_or r 1 0) follow))))
    | inr more ↦ elim (cases_lt (get_or r 0 0) 0xF0) [
      | inl short ↦ absurd (none 3 (omega arith) (subst IsUtf8 (sym (take_three r some)) (text_of_three (get_or r 0 0) (get_or r 1 0) (get_or r 2 0) more short follow goes_on)))
      | inr long ↦ front_of_three (get_or r 0 0) (get_or r 1 0) (get_or r 2 0) long lead.1 follow goes_on
    ]
  ]);
  longest = λ m more fits h.
      let b = begun r m none (omega arith) fits h in
      let least = b.longer in
      let most = b.bytes.short in
      omega arith;
}

-- what `error_len` tells of such bytes, and whether a character can begin with the first
abbrev IsFrontOf : List ℕ → Option ℕ → Bool → Type 0
IsFrontOf r None lead = FrontAt r (length r)
IsFrontOf r (Some wrong) true = FrontAt r wrong
IsFrontOf r (Some wrong) false = FrontAt r 0

in_range : (low high c : ℕ) → is_in_range low high c ≡ true → IsInRange low high c
in_range low high c t = let parts = and_parts (leb low c) (leb c high) t in (leb-true low c parts.0, leb-true c high parts.1)

not_in_range : (low high c : ℕ) → is_in_range low high c ≡ false → ¬ (IsInRange low high c)
not_in_range low high c t (a, b) = let yes : is_in_range low high c ≡ true = and_from (leb low c) (leb c high) (le-leb low c a) (le-leb c high b) in cc

all_of : (r : List ℕ) (k : ℕ) (lead : Bool) → length r ≡ k → FrontAt r k → IsFrontOf r None lead
all_of r k lead e h = subst (FrontAt r) (sym e) h

after_two_is : (r : List ℕ) → BeginsNoText r → 1 < length r → Leads (get_or r 0 0) → Follows (get_or r 0 0) (get_or r 1 0) → (short third last : Bool) →
    ltb (length r) 3 ≡ short → is_in_range 0x80 0xBF (get_or r 2 0) ≡ third → ltb (length r) 4 ≡ last →
    IsFrontOf r (cond short None (cond third (cond last None (Some 3)) (Some 2))) true
after_two_is r none some lead follow true third last a b d =
    let few = ltb-true (length r) 3 a in
    all_of r 2 true (omega arith) (at_two r none some lead follow (λ h. absurd (omega arith)))
after_two_is r none some lead follow false true true a b d =
    let many = ltb-false (length r) 3 a in
    let few = ltb-true (length r) 4 d in
    all_of r 3 true (omega arith) (at_three r none many lead follow (in_range 0x80 0xBF (get_or r 2 0) b))
after_two_is r none some lead follow false true false a b d = at_three r none (ltb-false (length r) 3 a) lead follow (in_range 0x80 0xBF (get_or r 2 0) b)
after_two_is r none some lead follow false false last a b d = at_two r none some lead follow (λ _. not_in_range 0x80 0xBF (get_or r 2 0) b)

after_one_is : (r : List ℕ) → BeginsNoText r → 0 < length r → Leads (get_or r 0 0) → (short second : Bool) →
    ltb (length r) 2 ≡ short → is_in_range (second_byte_min (get_or r 0 0)) (second_byte_max (get_or r 0 0)) (get_or r 1 0) ≡ second →
    IsFrontOf r (cond short None (cond second (error_len_after_two r) (Some 1))) true
after_one_is r none some lead true second a b =
    let few = ltb-true (length r) 2 a in
    all_of r 1 true (omega arith) (at_one r none some lead (λ h. absurd (omega arith)))
after_one_is r none some lead false true a b = after_two_is r none (ltb-false (length r) 2 a) lead (in_range _ _ _ b) _ _ _ refl refl refl
after_one_is r none some lead false false a b = at_one r none some lead (λ _. not_in_range _ _ _ b)

some_is : (r : List ℕ) → BeginsNoText r → 0 < length r → (lead : Bool) → is_in_range 0xC2 0xF4 (get_or r 0 0) ≡ lead → IsFrontOf r (cond lead (error_len_after_one r) (Some 1)) lead
some_is r none some true a = after_one_is r none some (in_range _ _ _ a) _ _ refl refl
some_is r none some false a = at_no_lead r none (not_in_range _ _ _ a)

front_is : (r : List ℕ) → BeginsNoText r → 0 < length r → IsFrontOf r (utf8_error_len r) (is_in_range 0xC2 0xF4 (get_or r 0 0))
unfolding utf8_error_len
front_is r none some = rw (ne_eqb (length r) 0 (λ e. absurd (omega arith))) (some_is r none some _ refl)

-- ---- behind the longest front that is a text

begins_no_text : (bytes : List ℕ) (at : ℕ) → IsValidUpTo bytes at → BeginsNoText (drop at bytes)
begins_no_text bytes at valid n some h = valid.longest (at + n) (omega arith) (subst IsUtf8 (sym (take-add at n bytes)) (IsUtf8-append (take at bytes) (take n (drop at bytes)) valid.front h))

stops : (bytes : List ℕ) (at k : ℕ) → IsValidUpTo bytes at → FrontAt (drop at bytes) k → StopsBeingText bytes (at + k)
stops bytes at k valid h =
    let short = valid.short in
    let left : length (drop at bytes) ≡ length bytes - at = length-drop at bytes in
    let within = h.within in
    record {
      within = omega arith;
      front =
          let (rest, text) = h.front in
          (rest, subst IsUtf8 (sym (append_assoc (take at bytes) (take k (drop at bytes)) rest) ∙ ap (λ l. l ++ rest) (sym (take-add at k bytes))) (IsUtf8-append (take at bytes) (take k (drop at bytes) ++ rest) valid.front text));
      longest = λ more lt fits front.
          let n = more - at in
          let is : at + n ≡ more = omega arith in
          let (rest, text) = front in
          let whole : take more bytes ++ rest ≡ take at bytes ++ (take n (drop at bytes) ++ rest) =
          ap (λ m. take m bytes ++ rest) (sym is) ∙ ap (λ l. l ++ rest) (take-add at n bytes) ∙ append_assoc (take at bytes) (take n (drop at bytes)) rest in
          h.longest n (omega arith) (omega arith) (rest, text_behind (take at bytes) (take n (drop at bytes) ++ rest) valid.front (subst IsUtf8 whole text));
    }

-- where `from_utf8` refuses the bytes, its error tells where they stop being the front of a text
abbrev StopsAs : List ℕ → ℕ → Option ℕ → Bool → Type 0
StopsAs bytes at None lead = StopsBeingText bytes (length bytes)
StopsAs bytes at (Some wrong) true = StopsBeingText bytes (at + wrong)
StopsAs bytes at (Some wrong) false = StopsBeingText bytes at

stops_as : (bytes : List ℕ) (at : ℕ) (len : Option ℕ) (lead : Bool) → IsValidUpTo bytes at → IsFrontOf (drop at bytes) len lead → StopsAs bytes at len lead
stops_as bytes at None lead valid h =
    let short = valid.short in
    let whole : at + length (drop at bytes) ≡ length bytes = omega (arith, length-drop at bytes) in
    subst (StopsBeingText bytes) whole (stops bytes at (length (drop at bytes)) valid h)
stops_as bytes at (Some wrong) true valid h = stops bytes at wrong valid h
stops_as bytes at (Some wrong) false valid h = subst (StopsBeingText bytes) (let e : at + 0 ≡ at = omega arith in e) (stops bytes at 0 valid h)

pub text_stops : (bytes : List ℕ) (at : ℕ) (len : Option ℕ) (lead : Bool) → IsValidUpTo bytes at → len ≡ utf8_error_len (drop at bytes) → lead ≡ is_in_range 0xC2 0xF4 (get_or bytes at 0) → StopsAs bytes at len lead
text_stops bytes at len lead valid is first =
    let r = drop at bytes in
    let short = valid.short in
    let here : get_or r 0 0 ≡ get_or bytes at 0 = get_or-drop at bytes 0 0 ∙ ap (λ n. get_or bytes n 0) (let e : at + 0 ≡ at = omega arith in e) in
    let found = front_is r (begins_no_text bytes at valid) (omega (arith, length-drop at bytes)) in
    stops_as bytes at len lead valid
    (subst (λ l. IsFrontOf r l lead) (sym is) (subst (IsFrontOf r (utf8_error_len r)) (ap (is_in_range 0xC2 0xF4) here ∙ sym first) found))
