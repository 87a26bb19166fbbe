-- References by their grammar, and as they are measured.
use Rattle.std.proofs.Common.{◌≡◌, ℕ, zero, suc, ◌+◌, ◌<◌, Bool, true, false, cond, inl, inr, List, [], ◌∷◌, ◌++◌, length, drop, refl, ap, sym, subst, ◌∙◌, arith, append_assoc, codes, IsUtf8}
use Rattle.std.specs.Prelude.{◌&&◌, ◌==◌, nat_eq, nat_lt, slice_index}
use Rattle.std.specs.List.{prefix_len, starts_with}
use Rattle.std.specs.Str.{chars, continuation_len}
use Rattle.std.specs.Char.{is_ascii_digit, is_ascii_hexdigit}
use lib.Utf8.{encode, encodes, scalar, scalars}
use Rattle.std.proofs.lemmas.Bool.{cases_Bool, and_parts, and_from, or_left, eqb-true, eq-eqb, ne_eqb, lt-ltb, ltb-true}
use Rattle.std.proofs.lemmas.Bool.Decides.{Decides-eqb, nat_tests}
use Rattle.std.proofs.lemmas.Slice.Eq.{starts_is}
use Rattle.std.proofs.lemmas.List.{drop_at, length-append, get_or_at}
use Rattle.std.proofs.lemmas.Str.{chars-encodes, encodes-chars, scalars-chars, encodes-append, len_utf8_bounds, length-encode, encodes-IsAscii, chars-IsAscii, IsUtf8-from_ascii}
use Rattle.nx_base.specs.Characters.{is_name_start, is_name_char}
use Rattle.nx_base.specs.Form.{Form, name_char, one, seq, Spells}
use Rattle.nx_base.specs.Tags.{name_form}
use Rattle.nx_events.specs.Utf8.{front_char}
use Rattle.nx_events.specs.References.{name_chars_len, name_len, behind_mark, reference_body_len, reference_len}
use Rattle.nx_events.specs.Words.{word, one_of, some, digit, hexdigit}
use Rattle.nx_events.specs.ReferenceForm.{reference_form, HasShape}
use Rattle.nx_events.proofs.References.{front_goes_on, name_stops}
use Rattle.nx_events.proofs.Texts.{lead_len}
use Rattle.nx_events.proofs.FormWords.{AllPass, OfOne, one-of_one, many-to, many-from, word-to, word-from, digit-of_one, hexdigit-of_one, form_passes, form_pass, is_small, small_ascii}
use Rattle.nx_events.proofs.FrontChars.{front_is, head_is}

-- a name is measured to its end
semicolon_stops : (rest : List ℕ) → name_chars_len 0 (59 ∷ rest) ≡ 0
unfolding is_name_char is_name_start front_char
semicolon_stops rest = name_stops (59 ∷ rest) refl

name_chars_on : (c : ℕ) (rest : List ℕ) → scalar c ≡ true → is_name_char c ≡ true → name_chars_len 0 (encode c ++ rest) ≡ length (encode c) + name_chars_len 0 rest
name_chars_on c rest s h = by_bytes (encode c ++ rest) refl
  where
    by_bytes : (xs : List ℕ) → encode c ++ rest ≡ xs → name_chars_len 0 xs ≡ length (encode c) + name_chars_len 0 rest
    by_bytes [] e = absurd (let k = ap length e in let more = length-append (encode c) rest in let some = length-encode c in let few = (len_utf8_bounds c).0 in omega arith)
    by_bytes (b ∷ bs) e =
        let len : length (encode c) ≡ suc (continuation_len b) = lead_len c b bs rest e in
        let all : length (encode c) + length rest ≡ suc (length bs) = sym (length-append (encode c) rest) ∙ ap length e in
        let front : is_name_char (front_char (b ∷ bs)) ≡ true = ap (λ xs. is_name_char (front_char xs)) (sym e) ∙ ap is_name_char (front_is c rest s) ∙ h in
        let left : drop (length (encode c)) (b ∷ bs) ≡ rest = ap (drop (length (encode c))) (sym e) ∙ drop_at (encode c) rest (length (encode c)) refl in
        front_goes_on (b ∷ bs) (length (encode c)) front (omega arith) (omega arith) ∙ ap (λ xs. length (encode c) + name_chars_len 0 xs) left

name_chars_all : (cs rest : List ℕ) → scalars cs ≡ true → AllPass is_name_char cs → name_chars_len 0 rest ≡ 0 → name_chars_len 0 (encodes cs ++ rest) ≡ length (encodes cs)
name_chars_all [] rest s h k = k
name_chars_all (c ∷ cs) rest s h k =
    let parts = and_parts (scalar c) (scalars cs) s in
    ap (name_chars_len 0) (append_assoc (encode c) (encodes cs) rest)
    ∙ name_chars_on c (encodes cs ++ rest) parts.0 h.0
    ∙ ap (λ n. length (encode c) + n) (name_chars_all cs rest parts.1 h.1 k)
    ∙ sym (length-append (encode c) (encodes cs))

-- a name, character by character
pub name_all : (cs : List ℕ) → Spells name_form cs → (c : ℕ) × (ds : List ℕ) × (is_name_start c ≡ true) × AllPass is_name_char ds × (cs ≡ c ∷ ds)
unfolding Spells
name_all cs s = (s.2.0, s.1, s.2.1, many-to (one name_char) is_name_char (one-of_one name_char) s.1 s.3, s.4 ∙ ap (λ xs. xs ++ s.1) s.2.2)

pub name_spells : (c : ℕ) (ds : List ℕ) → is_name_start c ≡ true → AllPass is_name_char ds → Spells name_form (c ∷ ds)
unfolding Spells
name_spells c ds h all = (c ∷ [], ds, (c, h, refl), many-from (one name_char) is_name_char (one-of_one name_char) ds all, refl)

pub start_is_name : (c : ℕ) → is_name_start c ≡ true → is_name_char c ≡ true
unfolding is_name_char
start_is_name c h = or_left (is_name_start c) _ h

pub name_measured : (body rest : List ℕ) → IsUtf8 body → Spells name_form (chars body) → name_chars_len 0 rest ≡ 0 → name_len (body ++ rest) ≡ length body
unfolding name_len
name_measured body rest u s k =
    let t = name_all (chars body) s in
    let first = t.0 in
    let whole : body ≡ encodes (first ∷ t.1) = sym (encodes-chars body u) ∙ ap encodes t.4 in
    let ok : scalars (first ∷ t.1) ≡ true = ap scalars (sym t.4) ∙ scalars-chars body u in
    let parts = and_parts (scalar first) (scalars t.1) ok in
    let front : front_char (encodes (first ∷ t.1) ++ rest) ≡ first = ap front_char (append_assoc (encode first) (encodes t.1) rest) ∙ front_is first (encodes t.1 ++ rest) parts.0 in
    let starts : is_name_start (front_char (encodes (first ∷ t.1) ++ rest)) ≡ true = ap is_name_start front ∙ t.2 in
    ap (λ xs. cond (is_name_start (front_char (xs ++ rest))) (name_chars_len 0 (xs ++ rest)) 0) whole
    ∙ ap (λ (b : Bool). cond b (name_chars_len 0 (encodes (first ∷ t.1) ++ rest)) 0) starts
    ∙ name_chars_all (first ∷ t.1) rest ok (start_is_name first t.2, t.3) k
    ∙ ap length (sym whole)

-- what is measured is a name
pub record Measured (cs : List ℕ) : Type 0 where
  pub front : List ℕ
  pub rest : List ℕ
  pub is : cs ≡ front ++ rest
  pub names : AllPass is_name_char front
  pub measured : name_chars_len 0 (encodes cs) ≡ length (encodes front)

measure : (cs : List ℕ) → scalars cs ≡ true → Measured cs
unfolding name_chars_len
measure [] s = record { front = []; rest = []; is = refl; names = tt; measured = refl }
measure (c ∷ cs) s =
    let parts = and_parts (scalar c) (scalars cs) s in
    let r = measure cs parts.1 in
    elim (cases_Bool (is_name_char c)) [
      | inl h ↦ record {
        front = c ∷ r.front;
        rest = r.rest;
        is = ap (λ xs. c ∷ xs) r.is;
        names = (h, r.names);
        measured = name_chars_on c (encodes cs) parts.0 h ∙ ap (λ n. length (encode c) + n) r.measured ∙ sym (length-append (encode c) (encodes r.front));
      }
      | inr h ↦ record { front = []; rest = c ∷ cs; is = refl; names = tt; measured = name_stops (encode c ++ encodes cs) (ap is_name_char (front_is c (encodes cs) parts.0) ∙ h) }
    ]

nothing_measured : name_len [] ≡ 0
unfolding name_len is_name_start front_char
nothing_measured = refl

-- a front of bytes that is a text of a shape, and what follows it
pub record Shaped (form : Form) (n : ℕ) (bytes : List ℕ) : Type 0 where
  pub body : List ℕ
  pub rest : List ℕ
  pub is : bytes ≡ body ++ rest
  pub size : length body ≡ n
  pub utf8 : IsUtf8 body
  pub spelled : Spells form (chars body)

scalars_front : (xs ys : List ℕ) → scalars (xs ++ ys) ≡ true → scalars xs ≡ true
scalars_front [] ys h = refl
scalars_front (x ∷ xs) ys h = let t = and_parts (scalar x) (scalars (xs ++ ys)) h in and_from (scalar x) (scalars xs) t.0 (scalars_front xs ys t.1)

pub name_found : (bytes : List ℕ) → IsUtf8 bytes → 0 < name_len bytes → Shaped name_form (name_len bytes) bytes
unfolding name_len
name_found bytes u h = on u.0 u.1.0 u.1.1
  where
    by_test : (c : ℕ) (cs : List ℕ) → scalars (c ∷ cs) ≡ true → encodes (c ∷ cs) ≡ bytes → front_char bytes ≡ c → (t : Bool) → is_name_start c ≡ t → Shaped name_form (name_len bytes) bytes
    by_test c cs s e front false k =
        let none : name_len bytes ≡ 0 = ap (λ (b : Bool). cond b (name_chars_len 0 bytes) 0) (ap is_name_start front ∙ k) in absurd (omega arith)
    by_test c cs s e front true k =
        let parts = and_parts (scalar c) (scalars cs) s in
        let r = measure cs parts.1 in
        let all : name_len bytes ≡ length (encodes (c ∷ r.front)) =
        ap (λ (b : Bool). cond b (name_chars_len 0 bytes) 0) (ap is_name_start front ∙ k)
        ∙ ap (name_chars_len 0) (sym e)
        ∙ name_chars_on c (encodes cs) parts.0 (start_is_name c k)
        ∙ ap (λ n. length (encode c) + n) r.measured ∙ sym (length-append (encode c) (encodes r.front)) in
        let ok : scalars (c ∷ r.front) ≡ true = and_from (scalar c) (scalars r.front) parts.0 (scalars_front r.front r.rest (ap scalars (sym r.is) ∙ parts.1)) in
        record {
          body = encodes (c ∷ r.front);
          rest = encodes r.rest;
          is = sym e ∙ ap (λ xs. encode c ++ encodes xs) r.is ∙ ap (λ xs. encode c ++ xs) (encodes-append r.front r.rest) ∙ sym (append_assoc (encode c) (encodes r.front) (encodes r.rest));
          size = sym all;
          utf8 = (c ∷ r.front, (ok, refl));
          spelled = subst (λ xs. Spells name_form xs) (sym (chars-encodes (c ∷ r.front) ok)) (name_spells c r.front k r.names);
        }

    on : (cs : List ℕ) → scalars cs ≡ true → encodes cs ≡ bytes → Shaped name_form (name_len bytes) bytes
    on [] s e = absurd (let none = ap name_len (sym e) ∙ nothing_measured in omega arith)
    on (c ∷ cs) s e =
        let parts = and_parts (scalar c) (scalars cs) s in
        let front : front_char bytes ≡ c = ap front_char (sym e) ∙ front_is c (encodes cs) parts.0 in
        by_test c cs s e front (is_name_start c) refl

-- digits are measured to their end, and what is measured is digits
prefix_all : (p : ℕ → Bool) (xs rest : List ℕ) → AllPass p xs → prefix_len p rest ≡ 0 → prefix_len p (xs ++ rest) ≡ length xs
prefix_all p [] rest h k = k
prefix_all p (x ∷ xs) rest h k =
    let next : 1 + length xs ≡ suc (length xs) = omega arith in
    ap (λ (t : Bool). cond t (1 + prefix_len p (xs ++ rest)) 0) h.0 ∙ ap (λ n. 1 + n) (prefix_all p xs rest h.1 k) ∙ next

prefix_split : (p : ℕ → Bool) (xs : List ℕ) → (front : List ℕ) × (rest : List ℕ) × (xs ≡ front ++ rest) × AllPass p front × (length front ≡ prefix_len p xs)
prefix_split p [] = ([], [], refl, tt, refl)
prefix_split p (x ∷ xs) =
    let r = prefix_split p xs in
    elim (cases_Bool (p x)) [
      | inl h ↦ (
        x ∷ r.0,
        r.1,
        ap (λ ys. x ∷ ys) r.2,
        (h, r.3),
        (let next : suc (length r.0) ≡ 1 + length r.0 = omega arith in next ∙ ap (λ n. 1 + n) r.4 ∙ sym (ap (λ (t : Bool). cond t (1 + prefix_len p xs) 0) h)),
      )
      | inr h ↦ ([], x ∷ xs, refl, tt, sym (ap (λ (t : Bool). cond t (1 + prefix_len p xs) 0) h))
    ]

pub some_spells : (form : Form) (p : ℕ → Bool) → OfOne form p → (xs : List ℕ) → 0 < length xs → AllPass p xs → Spells (some form) xs
unfolding Spells
some_spells form p h [] lt all = absurd (omega arith)
some_spells form p h (x ∷ xs) lt all = (x ∷ [], xs, h.from x all.0, many-from form p h xs all.1, refl)

pub some_all : (form : Form) (p : ℕ → Bool) → OfOne form p → (xs : List ℕ) → Spells (some form) xs → (0 < length xs) × AllPass p xs
unfolding Spells
some_all form p h xs s =
    let first = h.to s.0 s.2 in
    let P : List ℕ → Type 0 = λ ys. (0 < length ys) × AllPass p ys in
    subst P (sym (s.4 ∙ ap (λ ys. ys ++ s.1) first.2)) (omega arith, (first.1, many-to form p h s.1 s.3))

-- the three shapes
pub data ByShape (body : List ℕ) : Type 0 where
  by_name : IsUtf8 body → Spells name_form (chars body) → (slice_index body 0 == 35) ≡ false → ByShape body
  by_digits : (digits : List ℕ) → body ≡ 35 ∷ digits → 0 < length digits → AllPass is_ascii_digit digits → ByShape body
  by_hexdigits : (digits : List ℕ) → body ≡ 35 ∷ 120 ∷ digits → 0 < length digits → AllPass is_ascii_hexdigit digits → ByShape body

hash_small : (b : ℕ) → (b == 35) ≡ true → b < 128
hash_small b h = let e = eqb-true b 35 h in omega arith

no_hash : (c : ℕ) → is_name_start c ≡ true → (c == 35) ≡ false
unfolding is_name_start
no_hash c h = grind (arith, nat_tests)

name_head : (body : List ℕ) → IsUtf8 body → Spells name_form (chars body) → (slice_index body 0 == 35) ≡ false
name_head body u s =
    let t = name_all (chars body) s in
    let whole : body ≡ encodes (t.0 ∷ t.1) = sym (encodes-chars body u) ∙ ap encodes t.4 in
    ap (λ xs. slice_index xs 0 == 35) whole ∙ head_is (λ b. b == 35) t.0 (encodes t.1) hash_small ∙ no_hash t.0 t.2

small_bytes : (form : Form) (body : List ℕ) → form_passes is_small form ≡ true → IsUtf8 body → Spells form (chars body) → body ≡ chars body
small_bytes form body h u s =
    sym (encodes-chars body u) ∙ encodes-IsAscii (chars body) (small_ascii (chars body) (form_pass is_small form (chars body) h s))

pub shape_cases : (body : List ℕ) → HasShape body → ByShape body
unfolding Spells form_passes word one_of
shape_cases body h =
    elim h.spelled [
      | inl s ↦ by_name h.utf8 s (name_head body h.utf8 s)
      | inr t ↦ elim t [
        | inl s ↦ (let mark : s.0 ≡ codes "#" = word-to (codes "#") s.0 s.2 in
            let all = some_all digit is_ascii_digit digit-of_one s.1 s.3 in
            let bytes : body ≡ chars body = small_bytes (seq (word (codes "#")) (some digit)) body refl h.utf8 s in
            by_digits s.1 (bytes ∙ s.4 ∙ ap (λ xs. xs ++ s.1) mark) all.0 all.1)
        | inr s ↦ (let mark : s.0 ≡ codes "#x" = word-to (codes "#x") s.0 s.2 in
            let all = some_all hexdigit is_ascii_hexdigit hexdigit-of_one s.1 s.3 in
            let bytes : body ≡ chars body = small_bytes (seq (word (codes "#x")) (some hexdigit)) body refl h.utf8 s in
            by_hexdigits s.1 (bytes ∙ s.4 ∙ ap (λ xs. xs ++ s.1) mark) all.0 all.1)
      ]
    ]

-- the marks of the three shapes
hash_head : (w xs : List ℕ) → starts_with nat_eq xs (35 ∷ w) ≡ true → (slice_index xs 0 == 35) ≡ true
hash_head w [] h = absurd (cc)
hash_head w (x ∷ xs) h = eq-eqb x 35 (sym (eqb-true 35 x (and_parts (nat_eq 35 x) _ h).0))

pub no_hash_mark : (w xs : List ℕ) → (slice_index xs 0 == 35) ≡ false → starts_with nat_eq xs (35 ∷ w) ≡ false
no_hash_mark w xs h =
    elim (cases_Bool (starts_with nat_eq xs (35 ∷ w))) [
      | inl e ↦ absurd (let bad : true ≡ false = sym (hash_head w xs e) ∙ h in cc)
      | inr e ↦ e
    ]

pub digit_no_x : (d : ℕ) → is_ascii_digit d ≡ true → nat_eq 120 d ≡ false
digit_no_x d h = grind (arith, nat_tests)

behind_some : (mark n : ℕ) → 0 < n → behind_mark mark n ≡ mark + n
behind_some mark n h = ap (λ (t : Bool). cond t 0 (mark + n)) (ne_eqb n 0 (λ e. absurd (omega arith)))

behind_none : (mark n : ℕ) → 0 < behind_mark mark n → 0 < n
behind_none mark zero h = h
behind_none mark (suc n) h = omega arith

-- which of them a body is told by
pub body_by_name : (xs : List ℕ) → (slice_index xs 0 == 35) ≡ false → reference_body_len xs ≡ name_len xs
unfolding reference_body_len
body_by_name xs h =
    ap (λ (t : Bool). cond t (behind_mark 2 (prefix_len is_ascii_hexdigit (drop 2 xs))) (cond (starts_with nat_eq xs (codes "#")) (behind_mark 1 (prefix_len is_ascii_digit (drop 1 xs))) (name_len xs))) (no_hash_mark (120 ∷ []) xs h)
    ∙ ap (λ (t : Bool). cond t (behind_mark 1 (prefix_len is_ascii_digit (drop 1 xs))) (name_len xs)) (no_hash_mark [] xs h)

body_by_digits : (d : ℕ) (xs : List ℕ) → nat_eq 120 d ≡ false → reference_body_len (35 ∷ d ∷ xs) ≡ behind_mark 1 (prefix_len is_ascii_digit (d ∷ xs))
unfolding reference_body_len
body_by_digits d xs h = ap (λ (t : Bool). cond (t && true) (behind_mark 2 (prefix_len is_ascii_hexdigit xs)) (behind_mark 1 (prefix_len is_ascii_digit (d ∷ xs)))) h

body_by_hexdigits : (xs : List ℕ) → reference_body_len (35 ∷ 120 ∷ xs) ≡ behind_mark 2 (prefix_len is_ascii_hexdigit xs)
unfolding reference_body_len
body_by_hexdigits xs = refl

semicolon_no_digit : (rest : List ℕ) → prefix_len is_ascii_digit (59 ∷ rest) ≡ 0
semicolon_no_digit rest = refl

semicolon_no_hexdigit : (rest : List ℕ) → prefix_len is_ascii_hexdigit (59 ∷ rest) ≡ 0
semicolon_no_hexdigit rest = refl

some_head : (body rest : List ℕ) (b : ℕ) → (slice_index body 0 == 35) ≡ false → (b == 35) ≡ false → (slice_index (body ++ b ∷ rest) 0 == 35) ≡ false
some_head [] rest b h k = k
some_head (x ∷ body) rest b h k = h

-- a body of such a shape is measured to its end
pub body_measured : (body rest : List ℕ) → ByShape body → (reference_body_len (body ++ 59 ∷ rest) ≡ length body) × (0 < length body)
unfolding chars
body_measured body rest (by_name u s h) =
    let measured = body_by_name (body ++ 59 ∷ rest) (some_head body rest 59 h refl) ∙ name_measured body (59 ∷ rest) u s (semicolon_stops rest) in
    (measured, named_some body s)
  where
    named_some : (body : List ℕ) → Spells name_form (chars body) → 0 < length body
    named_some [] s = let t = name_all [] s in absurd (let bad : [] ≡ t.0 ∷ t.1 = t.4 in cc)
    named_some (b ∷ body) s = omega arith
body_measured body rest (by_digits [] e h all) = absurd (omega arith)
body_measured body rest (by_digits (d ∷ digits) e h all) =
    let P : List ℕ → Type 0 = λ xs. (reference_body_len (xs ++ 59 ∷ rest) ≡ length xs) × (0 < length xs) in
    let count = prefix_all is_ascii_digit (d ∷ digits) (59 ∷ rest) all (semicolon_no_digit rest) in
    let size : 1 + length (d ∷ digits) ≡ suc (length (d ∷ digits)) = omega arith in
    subst P (sym e) (body_by_digits d (digits ++ 59 ∷ rest) (digit_no_x d all.0) ∙ ap (behind_mark 1) count ∙ behind_some 1 (length (d ∷ digits)) h ∙ size, omega arith)
body_measured body rest (by_hexdigits digits e h all) =
    let P : List ℕ → Type 0 = λ xs. (reference_body_len (xs ++ 59 ∷ rest) ≡ length xs) × (0 < length xs) in
    let count = prefix_all is_ascii_hexdigit digits (59 ∷ rest) all (semicolon_no_hexdigit rest) in
    let size : 2 + length digits ≡ suc (suc (length digits)) = omega arith in
    subst P (sym e) (body_by_hexdigits (digits ++ 59 ∷ rest) ∙ ap (behind_mark 2) count ∙ behind_some 2 (length digits) h ∙ size, omega arith)

-- and what is measured has such a shape
ascii_shape : (p : ℕ → Bool) (form : Form) (body : List ℕ) → form_passes is_small form ≡ true → Spells form body → IsUtf8 body × (chars body ≡ body)
ascii_shape p form body h s =
    let small = small_ascii body (form_pass is_small form body h s) in
    (IsUtf8-from_ascii body small, chars-IsAscii body small)

pub digits_shape : (digits rest : List ℕ) (n : ℕ) → 0 < length digits → AllPass is_ascii_digit digits → suc (length digits) ≡ n → Shaped reference_form n (35 ∷ (digits ++ rest))
unfolding Spells form_passes word one_of
digits_shape digits rest n lt all e =
    let form = seq (word (codes "#")) (some digit) in
    let s : Spells form (35 ∷ digits) = (codes "#", digits, word-from (codes "#"), some_spells digit is_ascii_digit digit-of_one digits lt all, refl) in
    let t = ascii_shape is_ascii_digit form (35 ∷ digits) refl s in
    record { body = 35 ∷ digits; rest = rest; is = refl; size = e; utf8 = t.0; spelled = subst (λ xs. Spells reference_form xs) (sym t.1) (inr (inl s)) }

pub hexdigits_shape : (digits rest : List ℕ) (n : ℕ) → 0 < length digits → AllPass is_ascii_hexdigit digits → suc (suc (length digits)) ≡ n → Shaped reference_form n (35 ∷ 120 ∷ (digits ++ rest))
unfolding Spells form_passes word one_of
hexdigits_shape digits rest n lt all e =
    let form = seq (word (codes "#x")) (some hexdigit) in
    let s : Spells form (35 ∷ 120 ∷ digits) = (codes "#x", digits, word-from (codes "#x"), some_spells hexdigit is_ascii_hexdigit hexdigit-of_one digits lt all, refl) in
    let t = ascii_shape is_ascii_hexdigit form (35 ∷ 120 ∷ digits) refl s in
    record { body = 35 ∷ 120 ∷ digits; rest = rest; is = refl; size = e; utf8 = t.0; spelled = subst (λ xs. Spells reference_form xs) (sym t.1) (inr (inr s)) }

marked : (w xs : List ℕ) → starts_with nat_eq xs w ≡ true → xs ≡ w ++ drop (length w) xs
marked w xs h = (starts_is Decides-eqb xs w (starts_with nat_eq xs w) refl).0 h

pub body_found : (bytes : List ℕ) → IsUtf8 bytes → 0 < reference_body_len bytes → Shaped reference_form (reference_body_len bytes) bytes
unfolding reference_body_len Spells
body_found bytes u h =
    elim (cases_Bool (starts_with nat_eq bytes (codes "#x"))) [
      | inl e ↦ (let left = drop 2 bytes in
          let r = prefix_split is_ascii_hexdigit left in
          let n : reference_body_len bytes ≡ behind_mark 2 (prefix_len is_ascii_hexdigit left) =
          ap (λ (t : Bool). cond t (behind_mark 2 (prefix_len is_ascii_hexdigit left)) (cond (starts_with nat_eq bytes (codes "#")) (behind_mark 1 (prefix_len is_ascii_digit (drop 1 bytes))) (name_len bytes))) e in
          let lt : 0 < prefix_len is_ascii_hexdigit left = behind_none 2 (prefix_len is_ascii_hexdigit left) (subst (λ k. 0 < k) n h) in
          let size : suc (suc (length r.0)) ≡ reference_body_len bytes = (let k : suc (suc (length r.0)) ≡ 2 + prefix_len is_ascii_hexdigit left = omega (arith, r.4) in k) ∙ sym (n ∙ behind_some 2 (prefix_len is_ascii_hexdigit left) lt) in
          let whole : bytes ≡ 35 ∷ 120 ∷ (r.0 ++ r.1) = marked (codes "#x") bytes e ∙ ap (λ xs. 35 ∷ 120 ∷ xs) r.2 in
          subst (λ xs. Shaped reference_form (reference_body_len bytes) xs) (sym whole) (hexdigits_shape r.0 r.1 (reference_body_len bytes) (omega (arith, r.4)) r.3 size))
      | inr e ↦ elim (cases_Bool (starts_with nat_eq bytes (codes "#"))) [
        | inl f ↦ (let left = drop 1 bytes in
            let r = prefix_split is_ascii_digit left in
            let n : reference_body_len bytes ≡ behind_mark 1 (prefix_len is_ascii_digit left) =
            ap (λ (t : Bool). cond t (behind_mark 2 (prefix_len is_ascii_hexdigit (drop 2 bytes))) (cond (starts_with nat_eq bytes (codes "#")) (behind_mark 1 (prefix_len is_ascii_digit left)) (name_len bytes))) e
            ∙ ap (λ (t : Bool). cond t (behind_mark 1 (prefix_len is_ascii_digit left)) (name_len bytes)) f in
            let lt : 0 < prefix_len is_ascii_digit left = behind_none 1 (prefix_len is_ascii_digit left) (subst (λ k. 0 < k) n h) in
            let size : suc (length r.0) ≡ reference_body_len bytes = (let k : suc (length r.0) ≡ 1 + prefix_len is_ascii_digit left = omega (arith, r.4) in k) ∙ sym (n ∙ behind_some 1 (prefix_len is_ascii_digit left) lt) in
            let whole : bytes ≡ 35 ∷ (r.0 ++ r.1) = marked (codes "#") bytes f ∙ ap (λ xs. 35 ∷ xs) r.2 in
            subst (λ xs. Shaped reference_form (reference_body_len bytes) xs) (sym whole) (digits_shape r.0 r.1 (reference_body_len bytes) (omega (arith, r.4)) r.3 size))
        | inr f ↦ (let n : reference_body_len bytes ≡ name_len bytes =
            ap (λ (t : Bool). cond t (behind_mark 2 (prefix_len is_ascii_hexdigit (drop 2 bytes))) (cond (starts_with nat_eq bytes (codes "#")) (behind_mark 1 (prefix_len is_ascii_digit (drop 1 bytes))) (name_len bytes))) e
            ∙ ap (λ (t : Bool). cond t (behind_mark 1 (prefix_len is_ascii_digit (drop 1 bytes))) (name_len bytes)) f in
            let r = name_found bytes u (subst (λ k. 0 < k) n h) in
            record { body = r.body; rest = r.rest; is = r.is; size = r.size ∙ sym n; utf8 = r.utf8; spelled = inl r.spelled })
      ]
    ]

-- what follows a `&`: a body of such a shape and `;`, or none
pub reference_measured : (body rest : List ℕ) → HasShape body → reference_len (body ++ 59 ∷ rest) ≡ suc (length body)
unfolding reference_len
reference_measured body rest h =
    let t = body_measured body rest (shape_cases body h) in
    let bytes = body ++ 59 ∷ rest in
    let test : (nat_lt 0 (length body) && slice_index bytes (length body) == 59) ≡ true =
    and_from (nat_lt 0 (length body)) (slice_index bytes (length body) == 59) (lt-ltb 0 (length body) t.1) (eq-eqb (slice_index bytes (length body)) 59 (get_or_at body 59 rest 0 (length body) refl)) in
    ap (λ n. cond (nat_lt 0 n && slice_index bytes n == 59) (n + 1) 0) t.0
    ∙ ap (λ (b : Bool). cond b (length body + 1) 0) test ∙ (let e : length body + 1 ≡ suc (length body) = omega arith in e)

pub record Referenced (bytes : List ℕ) : Type 0 where
  pub body : List ℕ
  pub rest : List ℕ
  pub shape : HasShape body
  pub is : bytes ≡ body ++ 59 ∷ rest

pub reference_found : (bytes : List ℕ) → IsUtf8 bytes → (nat_lt 0 (reference_body_len bytes) && slice_index bytes (reference_body_len bytes) == 59) ≡ true → Referenced bytes
reference_found bytes u h =
    let n = reference_body_len bytes in
    let parts = and_parts (nat_lt 0 n) (slice_index bytes n == 59) h in
    let r = body_found bytes u (ltb-true 0 n parts.0) in
    let same : slice_index (r.body ++ r.rest) (length r.body) ≡ 59 = ap (λ xs. slice_index xs (length r.body)) (sym r.is) ∙ ap (slice_index bytes) r.size ∙ eqb-true (slice_index bytes n) 59 parts.1 in
    let t = next_is r.body r.rest same in
    record { body = r.body; rest = t.0; shape = record { utf8 = r.utf8; spelled = r.spelled }; is = r.is ∙ ap (λ xs. r.body ++ xs) t.1 }
  where
    next_is : (xs ys : List ℕ) → slice_index (xs ++ ys) (length xs) ≡ 59 → (zs : List ℕ) × (ys ≡ 59 ∷ zs)
    next_is [] [] e = absurd (omega arith)
    next_is [] (y ∷ ys) e = (ys, ap (λ y. y ∷ ys) e)
    next_is (x ∷ xs) ys e = next_is xs ys e

pub no_reference : (bytes : List ℕ) → (nat_lt 0 (reference_body_len bytes) && slice_index bytes (reference_body_len bytes) == 59) ≡ false → reference_len bytes ≡ 0
unfolding reference_len
no_reference bytes h = ap (λ (t : Bool). cond t (reference_body_len bytes + 1) 0) h
