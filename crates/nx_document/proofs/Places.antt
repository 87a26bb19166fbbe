-- Where the pieces of a text end: in front of a character.
use Rattle.std.proofs.Common.{◌≡◌, ℕ, zero, suc, ◌+◌, ◌/◌, ◌<◌, ◌≤◌, true, cond, List, [], ◌∷◌, ◌++◌, length, take, get_or, refl, ap, sym, subst, ◌∙◌, arith}
use Rattle.std.specs.Prelude.{◌==◌, ◌&&◌, nat_lt, nat_eq, slice_index, codes}
use Rattle.std.specs.List.{starts_with}
use Rattle.std.specs.Str.{IsUtf8, IsCharBoundary, continuation_len}
use lib.Utf8.{next, encode, encodes, scalar, scalars}
use Rattle.std.proofs.lemmas.Bool.{and_parts, eqb-true, ltb-true}
use Rattle.std.proofs.lemmas.Bool.Decides.{nat_tests}
use Rattle.std.proofs.lemmas.Slice.Eq.{bytes_eq-Decides}
use Rattle.std.proofs.lemmas.Str.{IsCharBoundary-after_ascii, IsCharBoundary-at_seam}
use Rattle.nx_events.specs.References.{reference_body_len, reference_len}
use Rattle.nx_events.specs.Strings.{line_piece_len, text_piece_len, piece_len}
use Rattle.nx_events.specs.declared.reading.Reading.{Reading}
use Rattle.nx_events.specs.declared.reading.Reading.TheVariants.{Plain, Text, Value}
use Rattle.nx_events.proofs.Texts.{test_is}

-- how many bytes a character has, by its first
one_byte : (a : ℕ) → a < 128 → zero ≡ continuation_len a
one_byte a h = grind (arith, nat_tests)

two_bytes : (a : ℕ) → 192 ≤ a → a < 224 → suc zero ≡ continuation_len a
two_bytes a h k = grind (arith, nat_tests)

three_bytes : (a : ℕ) → 224 ≤ a → a < 240 → suc (suc zero) ≡ continuation_len a
three_bytes a h k = grind (arith, nat_tests)

four_bytes : (a : ℕ) → 240 ≤ a → suc (suc (suc zero)) ≡ continuation_len a
four_bytes a h = grind (arith, nat_tests)

has_lead : (n a b : ℕ) (ys bs more : List ℕ) → n ≡ continuation_len a → length ys ≡ n → ((a ∷ ys) ++ more ≡ b ∷ bs) → length (a ∷ ys) ≡ suc (continuation_len b)
has_lead n a b ys bs more e l is =
    let all : a ∷ (ys ++ more) ≡ b ∷ bs = is in
    let same : a ≡ b = cc in
    ap suc (l ∙ e ∙ ap continuation_len same)

lead_len : (c b : ℕ) (bs more : List ℕ) → encode c ++ more ≡ b ∷ bs → length (encode c) ≡ suc (continuation_len b)
unfolding encode
lead_len c b bs more =
    let P : List ℕ → Type 0 = λ xs. xs ++ more ≡ b ∷ bs → length xs ≡ suc (continuation_len b) in
    test_is P (nat_lt c 128) _ _
    (λ h. has_lead zero c b [] bs more (one_byte c (ltb-true c 128 h)) refl)
    (λ _. test_is P (nat_lt c 2048) _ _
    (λ h. has_lead (suc zero) (192 + c / 64) b (next c ∷ []) bs more (two_bytes (192 + c / 64) (omega arith) (let k = ltb-true c 2048 h in omega arith)) refl)
    (λ _. test_is P (nat_lt c 65536) _ _
    (λ h. has_lead (suc (suc zero)) (224 + c / 4096) b (next (c / 64) ∷ next c ∷ []) bs more (three_bytes (224 + c / 4096) (omega arith) (let k = ltb-true c 65536 h in omega arith)) refl)
    (λ _. has_lead (suc (suc (suc zero))) (240 + c / 262144) b (next (c / 4096) ∷ next (c / 64) ∷ next c ∷ []) bs more (four_bytes (240 + c / 262144) (omega arith)) refl)))

pub lead_border : (b : ℕ) (bs : List ℕ) → IsUtf8 (b ∷ bs) → IsCharBoundary (b ∷ bs) (suc (continuation_len b))
lead_border b bs u = on u.0 u.1.0 u.1.1
  where
    on : (cs : List ℕ) → scalars cs ≡ true → encodes cs ≡ b ∷ bs → IsCharBoundary (b ∷ bs) (suc (continuation_len b))
    on [] s e = let bad : [] ≡ b ∷ bs = e in absurd (cc)
    on (c ∷ cs) s e =
        let parts = and_parts (scalar c) (scalars cs) s in
        subst (λ n. IsCharBoundary (b ∷ bs) n) (lead_len c b bs (encodes cs) e)
        (IsCharBoundary-at_seam (b ∷ bs) (encode c) (encodes cs) (sym e) (cs, (parts.1, refl)))

-- a byte that is read isn't behind the end
pub read_within : (bs : List ℕ) (n b : ℕ) → (get_or bs n 0 == suc b) ≡ true → (n < length bs) × (get_or bs n 0 ≡ suc b)
read_within [] zero b h = let bad : 0 ≡ suc b = eqb-true 0 (suc b) h in absurd (omega arith)
read_within [] (suc n) b h = let bad : 0 ≡ suc b = eqb-true 0 (suc b) h in absurd (omega arith)
read_within (x ∷ bs) zero b h = (omega arith, eqb-true x (suc b) h)
read_within (x ∷ bs) (suc n) b h = let r = read_within bs n b h in (omega (arith, r.0), r.1)

-- bytes that begin with a word
pub begins_so : (bs mark : List ℕ) → starts_with nat_eq bs mark ≡ true → mark ≡ take (length mark) bs
begins_so bs mark e = (bytes_eq-Decides mark (take (length mark) bs)).0 e

third_is : (xs : List ℕ) → codes "]]>" ≡ take 3 xs → (2 < length xs) × (get_or xs 2 0 ≡ 62)
third_is [] e = let bad : codes "]]>" ≡ [] = e in absurd (cc)
third_is (a ∷ []) e = let bad : codes "]]>" ≡ a ∷ [] = e in absurd (cc)
third_is (a ∷ b ∷ []) e = let bad : codes "]]>" ≡ a ∷ b ∷ [] = e in absurd (cc)
third_is (a ∷ b ∷ c ∷ xs) e = let same : codes "]]>" ≡ a ∷ b ∷ c ∷ [] = e in let third : 62 ≡ c = cc in (omega arith, sym third)

pub line_border : (b : ℕ) (bs : List ℕ) → IsUtf8 (b ∷ bs) → IsCharBoundary (b ∷ bs) (line_piece_len (b ∷ bs))
unfolding line_piece_len
line_border b bs u =
    test_is (IsCharBoundary (b ∷ bs)) (b == 13 && slice_index bs 0 == 10) 2 (suc (continuation_len b))
    (λ h. let r = read_within bs 0 9 (and_parts (b == 13) (slice_index bs 0 == 10) h).1 in
    IsCharBoundary-after_ascii (b ∷ bs) 1 u (omega (arith, r.0)) (omega (arith, r.1)))
    (λ h. lead_border b bs u)

reference_border : (b : ℕ) (bs : List ℕ) → IsUtf8 (b ∷ bs) → b ≡ 38 → IsCharBoundary (b ∷ bs) (suc (reference_len bs))
unfolding reference_len
reference_border b bs u amp =
    let n = reference_body_len bs in
    let P : ℕ → Type 0 = λ k. IsCharBoundary (b ∷ bs) (suc k) in
    test_is P (nat_lt 0 n && slice_index bs n == 59) (n + 1) 0
    (λ h. let r = read_within bs n 58 (and_parts (nat_lt 0 n) (slice_index bs n == 59) h).1 in
    subst (λ k. IsCharBoundary (b ∷ bs) k) (let e : suc n + 1 ≡ suc (n + 1) = omega arith in e)
    (IsCharBoundary-after_ascii (b ∷ bs) (suc n) u (omega (arith, r.0)) (omega (arith, r.1))))
    (λ h. IsCharBoundary-after_ascii (b ∷ bs) 0 u (omega arith) (omega arith))

text_border : (b : ℕ) (bs : List ℕ) → IsUtf8 (b ∷ bs) → IsCharBoundary (b ∷ bs) (text_piece_len (b ∷ bs))
unfolding text_piece_len
text_border b bs u =
    test_is (IsCharBoundary (b ∷ bs)) (b == 38) (suc (reference_len bs))
    (cond (starts_with nat_eq (b ∷ bs) (codes "]]>")) 3 (line_piece_len (b ∷ bs)))
    (λ h. reference_border b bs u (eqb-true b 38 h))
    (λ _. test_is (IsCharBoundary (b ∷ bs)) (starts_with nat_eq (b ∷ bs) (codes "]]>")) 3 (line_piece_len (b ∷ bs))
    (λ h. let r = third_is (b ∷ bs) (begins_so (b ∷ bs) (codes "]]>") h) in IsCharBoundary-after_ascii (b ∷ bs) 2 u r.0 (omega (arith, r.1)))
    (λ _. line_border b bs u))

pub piece_border : (reading : Reading) (b : ℕ) (bs : List ℕ) → IsUtf8 (b ∷ bs) → IsCharBoundary (b ∷ bs) (piece_len reading (b ∷ bs))
piece_border Plain b bs u = line_border b bs u
piece_border Text b bs u = text_border b bs u
piece_border Value b bs u = text_border b bs u
