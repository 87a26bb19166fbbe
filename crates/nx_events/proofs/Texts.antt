-- Parts of a text that is UTF-8 are UTF-8.
use Rattle.std.proofs.Common.{◌≡◌, ℕ, zero, suc, ◌+◌, ◌-◌, ◌/◌, ◌<◌, ◌≤◌, Bool, true, false, cond, inl, inr, Option, Some, None, List, [], ◌∷◌, ◌++◌, length, take, drop, get_or, refl, ap, sym, subst, ◌∙◌, arith}
use Rattle.std.specs.Prelude.{◌==◌, ◌&&◌, not, nat_lt, nat_eq, slice_index, codes}
use Rattle.std.specs.List.{flat_map, starts_with, position_or_len, before_first, after_first}
use Rattle.std.specs.Str.{IsUtf8, IsCharBoundary, continuation_len, bytes_eq}
use lib.Utf8.{next, encode, encodes, scalar, scalars, low_scalar}
use Rattle.std.proofs.lemmas.Bool.{cases_lt, and_parts, eqb-true}
use Rattle.std.proofs.lemmas.Bool.Decides.{nat_tests}
use Rattle.std.proofs.lemmas.List.{drop_all}
use Rattle.std.proofs.lemmas.List.Sums.{passes_at_first}
use Rattle.std.proofs.lemmas.Str.{IsUtf8-nil, IsUtf8-append, IsUtf8-encode, IsUtf8-take, IsUtf8-drop, IsCharBoundary-after_ascii, IsCharBoundary-at_seam, encode_ascii}
use Rattle.nx_base.specs.Characters.{is_char, is_space}
use Rattle.nx_events.specs.References.{reference_body_len, reference_len, numbered, character_named, referenced, spelled}
use Rattle.nx_base.specs.CharacterCodes.{char_of_code}
use Rattle.std.specs.Str.Parse.{digits_value}
use Rattle.nx_events.specs.Strings.{Piece, cut_by, line_piece_len, text_piece_len, piece_len, line_string_of, text_string_of, value_string_of, piece_string, string_of}
use Rattle.nx_events.specs.declared.reading.Reading.{Reading}
use Rattle.nx_events.specs.declared.reading.Reading.TheVariants.{Plain, Text, Value}
use Rattle.nx_events.proofs.Pieces.{piece_positive}

-- a place in front of a byte of ASCII, or at the end; and what stands before such a place, and behind such a byte
pub border_at : (bs : List ℕ) (n : ℕ) → n ≤ length bs → (n < length bs → get_or bs n 0 < 128) → IsCharBoundary bs n
border_at bs n le h = (le, λ lt high. absurd (let low = h lt in omega arith))

pub up_to : (bs : List ℕ) (n : ℕ) → IsUtf8 bs → n ≤ length bs → (n < length bs → get_or bs n 0 < 128) → IsUtf8 (take n bs)
up_to bs n u le h = IsUtf8-take bs n u (border_at bs n le h)

pub behind : (bs : List ℕ) (n : ℕ) → IsUtf8 bs → n < length bs → get_or bs n 0 < 128 → IsUtf8 (drop (n + 1) bs)
behind bs n u lt h = IsUtf8-drop bs (n + 1) u (IsCharBoundary-after_ascii bs n u lt h)

pub place_fits : (p : ℕ → Bool) (bs : List ℕ) → position_or_len p bs ≤ length bs
place_fits p [] = omega arith
place_fits p (b ∷ bs) = by_test (place_fits p bs) (p b)
  where
    by_test : position_or_len p bs ≤ length bs → (t : Bool) → cond (not t) (1 + position_or_len p bs) 0 ≤ suc (length bs)
    by_test h true = omega arith
    by_test h false = omega arith

pub before_text : (p : ℕ → Bool) (bs : List ℕ) → ((b : ℕ) → p b ≡ true → b < 128) → IsUtf8 bs → IsUtf8 (before_first p bs)
before_text p bs small u =
    up_to bs (position_or_len p bs) u (place_fits p bs) (λ lt. small (get_or bs (position_or_len p bs) 0) (passes_at_first p bs 0 lt))

pub after_text : (p : ℕ → Bool) (bs : List ℕ) → ((b : ℕ) → p b ≡ true → b < 128) → IsUtf8 bs → IsUtf8 (after_first p bs)
after_text p bs small u =
    elim (cases_lt (position_or_len p bs) (length bs)) [
      | inl lt ↦ behind bs (position_or_len p bs) u lt (small (get_or bs (position_or_len p bs) 0) (passes_at_first p bs 0 lt))
      | inr past ↦ subst (λ xs. IsUtf8 xs) (sym (drop_all (position_or_len p bs + 1) bs (omega arith))) IsUtf8-nil
    ]

-- bytes of ASCII
pub ascii_one : (c : ℕ) → c < 128 → IsUtf8 (c ∷ [])
ascii_one c small = subst (λ xs. IsUtf8 xs) (encode_ascii c small) (IsUtf8-encode c (low_scalar c (omega arith)))

pub space_small : (b : ℕ) → is_space b ≡ true → b < 128
unfolding is_space
space_small b h = grind (arith, nat_tests)

-- one of two
pub either_is : {A : Type 0} (P : A → Type 0) (t : Bool) (x y : A) → P x → P y → P (cond t x y)
either_is P true x y h k = h
either_is P false x y h k = k

pub test_is : {A : Type 0} (P : A → Type 0) (t : Bool) (x y : A) → (t ≡ true → P x) → (t ≡ false → P y) → P (cond t x y)
test_is P true x y h k = h refl
test_is P false x y h k = k refl

-- the length of a character by its first byte
continues_0 : (a : ℕ) → a < 128 → zero ≡ continuation_len a
continues_0 a h = grind (arith, nat_tests)

continues_1 : (a : ℕ) → 192 ≤ a → a < 224 → suc zero ≡ continuation_len a
continues_1 a h k = grind (arith, nat_tests)

continues_2 : (a : ℕ) → 224 ≤ a → a < 240 → suc (suc zero) ≡ continuation_len a
continues_2 a h k = grind (arith, nat_tests)

continues_3 : (a : ℕ) → 240 ≤ a → suc (suc (suc zero)) ≡ continuation_len a
continues_3 a h = grind (arith, nat_tests)

lt_from : (m n : ℕ) → nat_lt m n ≡ true → m < n
lt_from m n e = grind (arith, nat_tests)

has_lead : (n a b : ℕ) (ys bs more : List ℕ) → n ≡ continuation_len a → length ys ≡ n → ((a ∷ ys) ++ more ≡ b ∷ bs) → length (a ∷ ys) ≡ suc (continuation_len b)
has_lead n a b ys bs more e l is =
    let all : a ∷ (ys ++ more) ≡ b ∷ bs = is in
    let same : a ≡ b = cc in
    ap suc (l ∙ e ∙ ap continuation_len same)

pub lead_len : (c b : ℕ) (bs more : List ℕ) → encode c ++ more ≡ b ∷ bs → length (encode c) ≡ suc (continuation_len b)
unfolding encode
lead_len c b bs more =
    let P : List ℕ → Type 0 = λ xs. xs ++ more ≡ b ∷ bs → length xs ≡ suc (continuation_len b) in
    test_is P (nat_lt c 128) _ _
    (λ h. has_lead zero c b [] bs more (continues_0 c (lt_from c 128 h)) refl)
    (λ _. test_is P (nat_lt c 2048) _ _
    (λ h. has_lead (suc zero) (192 + c / 64) b (next c ∷ []) bs more (continues_1 (192 + c / 64) (omega arith) (let k = lt_from c 2048 h in omega arith)) refl)
    (λ _. test_is P (nat_lt c 65536) _ _
    (λ h. has_lead (suc (suc zero)) (224 + c / 4096) b (next (c / 64) ∷ next c ∷ []) bs more (continues_2 (224 + c / 4096) (omega arith) (let k = lt_from c 65536 h in omega arith)) refl)
    (λ _. has_lead (suc (suc (suc zero))) (240 + c / 262144) b (next (c / 4096) ∷ next (c / 64) ∷ next c ∷ []) bs more (continues_3 (240 + c / 262144) (omega arith)) refl)))

lead_border : (b : ℕ) (bs : List ℕ) → IsUtf8 (b ∷ bs) → IsCharBoundary (b ∷ bs) (suc (continuation_len b))
lead_border b bs u = on u.0 u.1.0 u.1.1
  where
    on : (cs : List ℕ) → scalars cs ≡ true → encodes cs ≡ b ∷ bs → IsCharBoundary (b ∷ bs) (suc (continuation_len b))
    on [] s e = let bad : [] ≡ b ∷ bs = e in absurd (cc)
    on (c ∷ cs) s e =
        let parts = and_parts (scalar c) (scalars cs) s in
        subst (λ n. IsCharBoundary (b ∷ bs) n) (lead_len c b bs (encodes cs) e)
        (IsCharBoundary-at_seam (b ∷ bs) (encode c) (encodes cs) (sym e) (cs, (parts.1, refl)))

-- a byte that is read isn't behind the end
read_within : (bs : List ℕ) (n b : ℕ) → (get_or bs n 0 == suc b) ≡ true → (n < length bs) × (get_or bs n 0 ≡ suc b)
read_within [] zero b h = let bad : 0 ≡ suc b = eqb-true 0 (suc b) h in absurd (omega arith)
read_within [] (suc n) b h = let bad : 0 ≡ suc b = eqb-true 0 (suc b) h in absurd (omega arith)
read_within (x ∷ bs) zero b h = (omega arith, eqb-true x (suc b) h)
read_within (x ∷ bs) (suc n) b h = let r = read_within bs n b h in (omega (arith, r.0), r.1)

-- where a piece ends
line_border : (b : ℕ) (bs : List ℕ) → IsUtf8 (b ∷ bs) → IsCharBoundary (b ∷ bs) (line_piece_len (b ∷ bs))
unfolding line_piece_len
line_border b bs u =
    test_is (IsCharBoundary (b ∷ bs)) (b == 13 && slice_index bs 0 == 10) 2 (suc (continuation_len b))
    (λ h. let r = read_within bs 0 9 (and_parts (b == 13) (slice_index bs 0 == 10) h).1 in
    IsCharBoundary-after_ascii (b ∷ bs) 1 u (omega (arith, r.0)) (omega (arith, r.1)))
    (λ h. lead_border b bs u)

reference_border : (b : ℕ) (bs : List ℕ) → IsUtf8 (b ∷ bs) → b ≡ 38 → IsCharBoundary (b ∷ bs) (suc (reference_len bs))
unfolding reference_len
reference_border b bs u amp =
    let n = reference_body_len bs in
    let P : ℕ → Type 0 = λ k. IsCharBoundary (b ∷ bs) (suc k) in
    test_is P (nat_lt 0 n && slice_index bs n == 59) (n + 1) 0
    (λ h. let r = read_within bs n 58 (and_parts (nat_lt 0 n) (slice_index bs n == 59) h).1 in
    subst (λ k. IsCharBoundary (b ∷ bs) k) (let e : suc n + 1 ≡ suc (n + 1) = omega arith in e)
    (IsCharBoundary-after_ascii (b ∷ bs) (suc n) u (omega (arith, r.0)) (omega (arith, r.1))))
    (λ h. IsCharBoundary-after_ascii (b ∷ bs) 0 u (omega arith) (omega arith))

brackets_read : (xs : List ℕ) → starts_with nat_eq xs (codes "]]>") ≡ true → (2 < length xs) × (get_or xs 2 0 ≡ 62)
brackets_read [] h = cc
brackets_read (a ∷ []) h = let r = (and_parts (nat_eq 93 a) false h).1 in cc
brackets_read (a ∷ b ∷ []) h = let r = (and_parts (nat_eq 93 b) false (and_parts (nat_eq 93 a) (nat_eq 93 b && false) h).1).1 in cc
brackets_read (a ∷ b ∷ d ∷ xs) h =
    let r = (and_parts (nat_eq 93 b) (nat_eq 62 d && true) (and_parts (nat_eq 93 a) (nat_eq 93 b && (nat_eq 62 d && true)) h).1).1 in
    (omega arith, sym (eqb-true 62 d (and_parts (nat_eq 62 d) true r).0))

text_border : (b : ℕ) (bs : List ℕ) → IsUtf8 (b ∷ bs) → IsCharBoundary (b ∷ bs) (text_piece_len (b ∷ bs))
unfolding text_piece_len
text_border b bs u =
    test_is (IsCharBoundary (b ∷ bs)) (b == 38) (suc (reference_len bs))
    (cond (starts_with nat_eq (b ∷ bs) (codes "]]>")) 3 (line_piece_len (b ∷ bs)))
    (λ h. reference_border b bs u (eqb-true b 38 h))
    (λ _. test_is (IsCharBoundary (b ∷ bs)) (starts_with nat_eq (b ∷ bs) (codes "]]>")) 3 (line_piece_len (b ∷ bs))
    (λ h. let r = brackets_read (b ∷ bs) h in IsCharBoundary-after_ascii (b ∷ bs) 2 u r.0 (omega (arith, r.1)))
    (λ _. line_border b bs u))

piece_border : (reading : Reading) (b : ℕ) (bs : List ℕ) → IsUtf8 (b ∷ bs) → IsCharBoundary (b ∷ bs) (piece_len reading (b ∷ bs))
piece_border Plain b bs u = line_border b bs u
piece_border Text b bs u = text_border b bs u
piece_border Value b bs u = text_border b bs u

-- the characters that references stand for
abbrev IsNoneOrScalar : Option ℕ → Type 0
IsNoneOrScalar None = Unit {0}
IsNoneOrScalar (Some c) = scalar c ≡ true

char_scalar : (c : ℕ) → is_char c ≡ true → scalar c ≡ true
unfolding is_char
char_scalar c h = grind (arith, nat_tests)

char_of_code_scalar : (c : ℕ) → IsNoneOrScalar (char_of_code c)
unfolding char_of_code
char_of_code_scalar c = test_is IsNoneOrScalar (is_char c) (Some c) None (char_scalar c) (λ _. tt)

numbered_scalar : (body : List ℕ) → IsNoneOrScalar (numbered body)
unfolding numbered
numbered_scalar body =
    either_is IsNoneOrScalar (starts_with nat_eq body (codes "#x")) _ _ (char_of_code_scalar (digits_value 16 (drop 2 body)))
    (either_is IsNoneOrScalar (starts_with nat_eq body (codes "#")) _ _ (char_of_code_scalar (digits_value 10 (drop 1 body))) tt)

named_scalar : (body : List ℕ) → IsNoneOrScalar (character_named body)
unfolding character_named
named_scalar body =
    either_is IsNoneOrScalar (bytes_eq body (codes "lt")) (Some 60) _ refl
    (either_is IsNoneOrScalar (bytes_eq body (codes "gt")) (Some 62) _ refl
    (either_is IsNoneOrScalar (bytes_eq body (codes "amp")) (Some 38) _ refl
    (either_is IsNoneOrScalar (bytes_eq body (codes "apos")) (Some 39) _ refl
    (either_is IsNoneOrScalar (bytes_eq body (codes "quot")) (Some 34) _ refl
    (numbered_scalar body)))))

spelled_text : (found : Option ℕ) → IsNoneOrScalar found → IsUtf8 (spelled found)
unfolding spelled
spelled_text None h = IsUtf8-nil
spelled_text (Some c) h = IsUtf8-encode c h

-- what stands for a piece
line_text : (p : List ℕ) → IsUtf8 p → IsUtf8 (line_string_of p)
unfolding line_string_of
line_text p u = either_is IsUtf8 (slice_index p 0 == 13) (10 ∷ []) p (ascii_one 10 (omega arith)) u

text_text : (p : List ℕ) → IsUtf8 p → IsUtf8 (text_string_of p)
unfolding text_string_of referenced
text_text p u =
    either_is IsUtf8 (slice_index p 0 == 38) (spelled (referenced p)) (line_string_of p)
    (spelled_text (referenced p) (named_scalar (take (length p - 2) (drop 1 p)))) (line_text p u)

value_text : (p : List ℕ) → IsUtf8 p → IsUtf8 (value_string_of p)
unfolding value_string_of
value_text p u = either_is IsUtf8 (is_space (slice_index p 0)) (32 ∷ []) (text_string_of p) (ascii_one 32 (omega arith)) (text_text p u)

piece_text : (reading : Reading) (p : List ℕ) → IsUtf8 p → IsUtf8 (piece_string reading p)
piece_text Plain p u = line_text p u
piece_text Text p u = text_text p u
piece_text Value p u = value_text p u

-- the string of a text
pieces_text : (reading : Reading) (n at : ℕ) (xs : List ℕ) → IsUtf8 (drop n xs) →
    IsUtf8 (flat_map (λ (p : Piece). piece_string reading p.bytes) (cut_by (piece_len reading) n at xs))
unfolding cut_by
pieces_text reading n at [] u = IsUtf8-nil
pieces_text reading (suc n) at (b ∷ bs) u = pieces_text reading n (at + 1) bs u
pieces_text reading zero at (b ∷ bs) u =
    let len = piece_len reading (b ∷ bs) in
    let some = piece_positive reading (b ∷ bs) (omega arith) in
    let border = piece_border reading b bs u in
    let next : len ≡ suc (len - 1) = omega arith in
    IsUtf8-append (piece_string reading (take len (b ∷ bs))) (flat_map (λ (p : Piece). piece_string reading p.bytes) (cut_by (piece_len reading) (len - 1) (at + 1) bs))
    (piece_text reading (take len (b ∷ bs)) (IsUtf8-take (b ∷ bs) len u border))
    (pieces_text reading (len - 1) (at + 1) bs (subst (λ n. IsUtf8 (drop n (b ∷ bs))) next (IsUtf8-drop (b ∷ bs) len u border)))

pub string_text : (reading : Reading) (xs : List ℕ) → IsUtf8 xs → IsUtf8 (string_of reading xs)
unfolding string_of
string_text reading xs u = pieces_text reading 0 0 xs u
