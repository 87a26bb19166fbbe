-- The words of a text, one after another.
use Rattle.std.specs.Prelude.{◌≡◌, ℕ, suc, ◌+◌, ◌-◌, ◌<◌, ◌≤◌, Bool, true, false, cond, not, List, [], ◌∷◌, length, take, drop, get_or}
use Rattle.std.proofs.Common.{refl, sym, ap, ◌∙◌, subst, arith, inl, inr, add_comm, add-one, le_antisymm}
use Rattle.std.proofs.Math.Seq.{drop-cons, take-length, drop-length}
use Rattle.std.proofs.lemmas.List.{length-take-le, length-drop}
use Rattle.std.specs.List.{filter, prefix_len, position_or_len}
use Rattle.std.specs.Str.{IsUtf8, IsCharBoundary}
use Rattle.std.proofs.lemmas.Bool.{cases_lt}
use Rattle.std.proofs.lemmas.Bool.Decides.{nat_tests}
use Rattle.std.proofs.lemmas.List.Splits.{slice_split-cons_yes, slice_split_first, slice_split_none}
use Rattle.std.proofs.lemmas.List.Sums.{prefix_len-le-length, fails_before_first, passes_at_first, prefix_len-drop_no, prefix_len-drop_all, prefix_len_stops}
use Rattle.std.proofs.lemmas.Str.{IsUtf8-drop, IsCharBoundary-after_ascii, IsCharBoundary-before_ascii, IsCharBoundary-from_drop, IsCharBoundary-end}
use Rattle.nx_base.specs.Characters.{is_space}
use Rattle.rng_types.specs.Spaces.{words, is_some_text}

-- each white space is one byte of ASCII
pub space_is_ascii : (c : ℕ) → is_space c ≡ true → c < 128
unfolding is_space
space_is_ascii c space = grind (arith, nat_tests)

pub words-space : (c : ℕ) (cs : List ℕ) → is_space c ≡ true → words (c ∷ cs) ≡ words cs
words-space c cs space = ap (filter is_some_text) (slice_split-cons_yes is_space c cs space)

leading-case : (b : Bool) (c : ℕ) (cs : List ℕ) → is_space c ≡ b → words (drop (prefix_len is_space cs) cs) ≡ words cs → words (drop (cond b (1 + prefix_len is_space cs) 0) (c ∷ cs)) ≡ words (c ∷ cs)
leading-case true c cs space before = rw (add_comm, add-one) (before ∙ sym (words-space c cs space))
leading-case false c cs space before = refl

-- white space at the start counts for nothing
pub words-drop_leading : (text : List ℕ) → words (drop (prefix_len is_space text) text) ≡ words text
words-drop_leading [] = refl
words-drop_leading (c ∷ cs) = leading-case (is_space c) c cs refl (words-drop_leading cs)

-- the first word stands before the first white space
words-first_inside : (text : List ℕ) → 0 < position_or_len is_space text → position_or_len is_space text < length text → words text ≡ take (position_or_len is_space text) text ∷ words (drop (position_or_len is_space text) text)
words-first_inside text some inside =
    let n : ℕ = position_or_len is_space text in
    let long : length (take n text) ≡ n = length-take-le n text (omega (arith, inside)) in
    let kept : is_some_text (take n text) ≡ true = grind (arith, nat_tests) in
    let parts = ap (filter is_some_text) (slice_split_first is_space text 0 inside) in
    let split : drop n text ≡ get_or text n 0 ∷ drop (suc n) text = drop-cons text n 0 inside in
    let rest : words (drop n text) ≡ words (drop (n + 1) text) = rw (split, add-one) (words-space (get_or text n 0) (drop (suc n) text) (passes_at_first is_space text 0 inside)) in
    parts ∙ rw (kept, rest) refl

words-first_alone : (text : List ℕ) → 0 < length text → length text ≤ position_or_len is_space text → words text ≡ take (position_or_len is_space text) text ∷ words (drop (position_or_len is_space text) text)
words-first_alone text some alone =
    let n : ℕ = position_or_len is_space text in
    let all : n ≡ length text = le_antisymm (prefix_len-le-length (λ c. not (is_space c)) text) alone in
    let kept : is_some_text text ≡ true = grind (arith, nat_tests) in
    let parts = ap (filter is_some_text) (slice_split_none is_space text (λ k d h. fails_before_first is_space text k d (omega (arith, all, h)))) in
    parts ∙ rw (kept, all, take-length text, drop-length text) refl

-- the first word of a text that begins with one, and what follows it
pub words-first : (text : List ℕ) → 0 < position_or_len is_space text → words text ≡ take (position_or_len is_space text) text ∷ words (drop (position_or_len is_space text) text)
words-first text some =
    elim (cases_lt (position_or_len is_space text) (length text)) [
      | inl inside ↦ words-first_inside text some inside
      | inr alone ↦ words-first_alone text (omega (arith, some, prefix_len-le-length (λ c. not (is_space c)) text)) alone
    ]

no_words_in_nothing : (text : List ℕ) → text ≡ [] → words text ≡ []
no_words_in_nothing text nothing = rw nothing refl

-- a text of white space alone has no word
pub no_words : (text : List ℕ) → prefix_len is_space text ≡ length text → words text ≡ []
no_words text blank =
    sym (words-drop_leading text) ∙ no_words_in_nothing (drop (prefix_len is_space text) text) (rw blank (drop-length text))

begins-case : (b : Bool) (m n : ℕ) → cond b (1 + m) 0 ≡ 0 → 0 < cond (not b) (1 + n) 0
begins-case true m n first = absurd (omega arith)
begins-case false m n first = omega arith

-- what is not white space begins a word
word_begins : (text : List ℕ) → 0 < length text → prefix_len is_space text ≡ 0 → 0 < position_or_len is_space text
word_begins [] some first = absurd (omega arith)
word_begins (c ∷ cs) some first = begins-case (is_space c) (prefix_len is_space cs) (position_or_len is_space cs) first

-- where the white space at the start has been dropped, none is left at the start
prefix_len-dropped : (text : List ℕ) → prefix_len is_space (drop (prefix_len is_space text) text) ≡ 0
prefix_len-dropped text = elim (cases_lt (prefix_len is_space text) (length text)) [
  | inl inside ↦ prefix_len-drop_no is_space text (prefix_len is_space text) 0 inside (prefix_len_stops is_space text 0 inside)
  | inr all ↦ prefix_len-drop_all is_space text (prefix_len is_space text) all
]

-- the first word of any text that has one, and what follows it
pub words-found : (text rest : List ℕ) → rest ≡ drop (prefix_len is_space text) text → (prefix_len is_space text ≡ length text → ⊥) → words text ≡ take (position_or_len is_space rest) rest ∷ words (drop (position_or_len is_space rest) rest)
words-found text rest is some =
    let within = prefix_len-le-length is_space text in
    let long : length rest ≡ length text - prefix_len is_space text = ap length is ∙ length-drop (prefix_len is_space text) text in
    let first : prefix_len is_space rest ≡ 0 = ap (prefix_len is_space) is ∙ prefix_len-dropped text in
    let filled : 0 < length rest = omega arith in
    sym (words-drop_leading text) ∙ ap words (sym is) ∙ words-first rest (word_begins rest filled first)

utf8-tail : (c : ℕ) (cs : List ℕ) → is_space c ≡ true → IsUtf8 (c ∷ cs) → IsUtf8 cs
utf8-tail c cs space utf8 =
    let cut : IsUtf8 (drop (0 + 1) (c ∷ cs)) = IsUtf8-drop (c ∷ cs) (0 + 1) utf8 (IsCharBoundary-after_ascii (c ∷ cs) 0 utf8 (omega arith) (space_is_ascii c space)) in
    cut

utf8-leading_case : (b : Bool) (c : ℕ) (cs : List ℕ) → is_space c ≡ b → IsUtf8 (c ∷ cs) → (IsUtf8 cs → IsUtf8 (drop (prefix_len is_space cs) cs)) → IsUtf8 (drop (cond b (1 + prefix_len is_space cs) 0) (c ∷ cs))
utf8-leading_case true c cs space utf8 more = rw (add_comm, add-one) (more (utf8-tail c cs space utf8))
utf8-leading_case false c cs space utf8 more = utf8

pub utf8-leading : (text : List ℕ) → IsUtf8 text → IsUtf8 (drop (prefix_len is_space text) text)
utf8-leading [] utf8 = utf8
utf8-leading (c ∷ cs) utf8 = utf8-leading_case (is_space c) c cs refl utf8 (utf8-leading cs)

-- a text may be cut behind the white space at its start, and in front of the first white space
pub cut_behind_leading : (text : List ℕ) → IsUtf8 text → IsCharBoundary text (prefix_len is_space text)
cut_behind_leading text utf8 = IsCharBoundary-from_drop text (prefix_len is_space text) (prefix_len-le-length is_space text) (utf8-leading text utf8)

pub cut_before_space : (text : List ℕ) → IsCharBoundary text (position_or_len is_space text)
cut_before_space text = elim (cases_lt (position_or_len is_space text) (length text)) [
  | inl inside ↦ IsCharBoundary-before_ascii text (position_or_len is_space text) inside (space_is_ascii _ (passes_at_first is_space text 0 inside))
  | inr all ↦ subst (IsCharBoundary text) (le_antisymm all (prefix_len-le-length (λ c. not (is_space c)) text)) (IsCharBoundary-end text)
]

-- the same of slices' ranges
rest_is_drop : (n : ℕ) (xs : List ℕ) → take (length xs - n) (drop n xs) ≡ drop n xs
rest_is_drop n xs = ap (λ k. take k (drop n xs)) (sym (length-drop n xs)) ∙ take-length (drop n xs)

pub words-found_in : (text rest : List ℕ) (from n : ℕ) → rest ≡ take (length text - from) (drop from text) → from ≡ prefix_len is_space text → (from ≡ length text → ⊥) → n ≡ position_or_len is_space rest →
    words text ≡ take n rest ∷ words (take (length rest - n) (drop n rest))
words-found_in text rest from n is_rest from_is some n_is =
    let at : rest ≡ drop (prefix_len is_space text) text = is_rest ∙ rest_is_drop from text ∙ ap (λ k. drop k text) from_is in
    words-found text rest at (λ all. some (from_is ∙ all))
    ∙ ap (λ k. take k rest ∷ words (drop k rest)) (sym n_is)
    ∙ ap (λ (t : List ℕ). take n rest ∷ words t) (sym (rest_is_drop n rest))
