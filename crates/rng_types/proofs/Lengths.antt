-- Lengths of texts after a treatment of their white space.
use Rattle.std.specs.Prelude.{◌≡◌, ℕ, suc, ◌+◌, ◌-◌, ◌<◌, min, Bool, true, false, if◌then◌else◌, List, [], ◌∷◌, ◌++◌, map, length, drop, get_or, encode_utf8}
use Rattle.std.proofs.Common.{refl, sym, ap, ◌∙◌, arith, length-append, append-nil, inl, inr}
use Rattle.std.proofs.lemmas.Bool.{false_from_ne_true, false≢true, cases_eq, and_from, and_parts}
use Rattle.std.specs.List.{sum_by, join_with_byte, AllByRecursion, prefix_len, position_or_len}
use Rattle.std.specs.Str.{chars, IsUtf8, encode_utf8_all, all_scalars}
use Rattle.std.specs.Ordering.{nat_cmp}
use Rattle.std.proofs.lemmas.List.Sums.{sum_by-cons}
use Rattle.std.proofs.lemmas.List.{length-map}
use Rattle.std.specs.declared.cmp.Ordering.{Ordering}
use Rattle.std.specs.declared.cmp.Ordering.TheVariants.{Less, Equal, Greater}
use Rattle.std.specs.Cmp.{ranked, nat_cmp_is}
use Rattle.std.proofs.lemmas.Str.{chars-nil, chars-encodes, encodes-chars, scalars-chars, IsUtf8-drop, encode_ascii, inside_one}
use Rattle.nx_base.specs.Characters.{is_space}
use Rattle.rng_types.specs.Spaces.{words, collapsed, replaced_char, replaced}
use Rattle.rng_types.proofs.Digits.{Ranks}
use Rattle.rng_types.proofs.Spaced.{chars-spaced}
use Rattle.rng_types.proofs.SplitWords.{space_is_ascii, words-found, no_words, utf8-leading, cut_before_space}
use Rattle.rng_types.proofs.Collapsed.{utf8-first_word, not_nothing}

-- the characters of a word, and a space
abbrev pub spaced : List ℕ → ℕ
spaced word = length (chars word) + 1

-- each word of a text is text
pub utf8-each : (ws : List (List ℕ)) (text : List ℕ) → IsUtf8 text → words text ≡ ws → AllByRecursion IsUtf8 ws
utf8-each [] text utf8 is = tt
utf8-each (word ∷ more) text utf8 is =
    let rest : List ℕ = drop (prefix_len is_space text) text in
    let behind : List ℕ = drop (position_or_len is_space rest) rest in
    elim (cases_eq (prefix_len is_space text) (length text)) [
      | inl blank ↦ absurd (not_nothing word more (sym is ∙ no_words text blank))
      | inr some ↦
          let found = words-found text rest refl some in
          let same : words behind ≡ more = cc in
          (utf8-first_word text word more utf8 is, utf8-each more behind (IsUtf8-drop rest (position_or_len is_space rest) (utf8-leading text utf8) (cut_before_space rest)) same)
    ]

-- joined words have one space less than words with a space each
length-joined : (word : List ℕ) (more : List (List ℕ)) → AllByRecursion IsUtf8 (word ∷ more) → length (chars (join_with_byte 32 (word ∷ more))) + 1 ≡ sum_by spaced (word ∷ more)
length-joined word [] utf8 = omega arith
length-joined word (other ∷ more) utf8 =
    let rest = length-joined other more utf8.1 in
    let joined : List ℕ = join_with_byte 32 (other ∷ more) in
    let split : length (chars (join_with_byte 32 (word ∷ other ∷ more))) ≡ length (chars word) + length (32 ∷ chars joined) =
    ap length (chars-spaced word joined utf8.0) ∙ length-append (chars word) (32 ∷ chars joined) in
    let sum : sum_by spaced (word ∷ other ∷ more) ≡ spaced word + sum_by spaced (other ∷ more) = sum_by-cons spaced word (other ∷ more) in
    rw (split, sum, ← rest) (omega arith)

length-case : (ws : List (List ℕ)) → AllByRecursion IsUtf8 ws → length (chars (join_with_byte 32 ws)) ≡ sum_by spaced ws - 1
length-case [] utf8 = rw chars-nil refl
length-case (word ∷ more) utf8 = omega (arith, length-joined word more utf8)

pub length-collapsed : (text : List ℕ) → IsUtf8 text → length (chars (collapsed text)) ≡ sum_by spaced (words text) - 1
length-collapsed text utf8 = length-case (words text) (utf8-each (words text) text utf8 refl)

-- a count that stops at a limit compares with smaller numbers as the whole one does
ranks_stopped : (o : Ordering) (n k most : ℕ) → k < most → Ranks o n k → Ranks o (min n most) k
ranks_stopped Less n k most small h = omega arith
ranks_stopped Equal n k most small h = omega arith
ranks_stopped Greater n k most small h = omega arith

pub compare_stopped : (n k most : ℕ) → k < most → nat_cmp (min n most) k ≡ nat_cmp n k
compare_stopped n k most small = sym (nat_cmp_is (min n most) k (nat_cmp n k) (ranks_stopped (nat_cmp n k) n k most small (ranked n k (nat_cmp n k) refl)))

ranks_less_one : (o : Ordering) (n k most : ℕ) → k + 1 < most → Ranks o (n - 1) k → Ranks o (min n most - 1) k
ranks_less_one Less n k most small h = omega arith
ranks_less_one Equal n k most small h = omega arith
ranks_less_one Greater n k most small h = omega arith

pub compare_less_one : (n k most : ℕ) → k + 1 < most → nat_cmp (min n most - 1) k ≡ nat_cmp (n - 1) k
compare_less_one n k most small = sym (nat_cmp_is (min n most - 1) k (nat_cmp (n - 1) k) (ranks_less_one (nat_cmp (n - 1) k) n k most small (ranked (n - 1) k (nat_cmp (n - 1) k) refl)))

-- replacing white space keeps the number of characters
replaced_none : (xs : List ℕ) → ((k : ℕ) → k < length xs → is_space (get_or xs k 0) ≡ false) → replaced xs ≡ xs
replaced_none [] other = refl
replaced_none (x ∷ xs) other =
    let first : is_space x ≡ false = other 0 (omega arith) in
    rw (first, replaced_none xs (λ k h. other (suc k) (omega (arith, h)))) refl

encode-case : (b : Bool) (c : ℕ) → is_space c ≡ b → replaced (encode_utf8 c) ≡ encode_utf8 (if b then 32 else c)
encode-case true c space = rw (encode_ascii c (space_is_ascii c space)) (rw space refl ∙ sym (encode_ascii 32 (omega arith)))
encode-case false c other =
    replaced_none (encode_utf8 c) (λ k h. false_from_ne_true _ (λ space.
    let small = space_is_ascii (get_or (encode_utf8 c) k 0) space in
    let same : c ≡ get_or (encode_utf8 c) k 0 = inside_one c [] (encode_utf8 c) k (sym (append-nil (encode_utf8 c))) h small in
    false≢true (sym other ∙ ap is_space same ∙ space)))

map-append : (f : ℕ → ℕ) (xs ys : List ℕ) → map f (xs ++ ys) ≡ map f xs ++ map f ys
map-append f [] ys = refl
map-append f (x ∷ xs) ys = ap (λ (t : List ℕ). f x ∷ t) (map-append f xs ys)

replaced-encodes : (cs : List ℕ) → replaced (encode_utf8_all cs) ≡ encode_utf8_all (map replaced_char cs)
replaced-encodes [] = refl
replaced-encodes (c ∷ cs) =
    map-append replaced_char (encode_utf8 c) (encode_utf8_all cs)
    ∙ ap (λ (t : List ℕ). t ++ replaced (encode_utf8_all cs)) (encode-case (is_space c) c refl)
    ∙ ap (λ (t : List ℕ). encode_utf8 (replaced_char c) ++ t) (replaced-encodes cs)

scalars-case : (b : Bool) (c : ℕ) (cs ds : List ℕ) → all_scalars (c ∷ cs) ≡ true → all_scalars ds ≡ true → all_scalars ((if b then 32 else c) ∷ ds) ≡ true
scalars-case true c cs ds all more = more
scalars-case false c cs ds all more = and_from _ _ (and_parts _ _ all).0 more

scalars-replaced : (cs : List ℕ) → all_scalars cs ≡ true → all_scalars (map replaced_char cs) ≡ true
scalars-replaced [] all = refl
scalars-replaced (c ∷ cs) all = scalars-case (is_space c) c cs (map replaced_char cs) all (scalars-replaced cs (and_parts _ _ all).1)

pub length-replaced : (text : List ℕ) → IsUtf8 text → length (chars (replaced text)) ≡ length (chars text)
length-replaced text utf8 =
    let cs : List ℕ = chars text in
    let spelt : encode_utf8_all cs ≡ text = encodes-chars text utf8 in
    let shown : chars (replaced text) ≡ map replaced_char cs =
    ap chars (ap replaced (sym spelt) ∙ replaced-encodes cs) ∙ chars-encodes (map replaced_char cs) (scalars-replaced cs (scalars-chars text utf8)) in
    ap length shown ∙ length-map cs replaced_char
