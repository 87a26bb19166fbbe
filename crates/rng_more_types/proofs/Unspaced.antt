-- Texts without their white space.
use Rattle.std.proofs.Common.{◌≡◌, ℕ, suc, ◌+◌, ◌-◌, ◌%◌, ◌≤◌, Bool, true, false, not, ◌&&◌, ◌==◌, List, [], ◌∷◌, length, take, drop, get_or, refl, sym, ap, ◌∙◌, arith, inl, inr}
use Rattle.std.specs.List.{prefix_len, position_or_len, list_all}
use Rattle.std.proofs.Math.Seq.{take-length}
use Rattle.std.proofs.lemmas.Bool.{cases_Bool, eqb-true}
use Rattle.rng_more_types.specs.Spaces.{is_space, unspaced}
use Rattle.rng_more_types.specs.Octets.{is_filler, digits_of, fillers_of, is_base64, is_base64_digit, is_ending, last_from}

-- what stands before the first that fails a test, and from there on
pub drop_pass : (test : ℕ → Bool) (c : ℕ) (cs : List ℕ) → test c ≡ true → drop (prefix_len test (c ∷ cs)) (c ∷ cs) ≡ drop (prefix_len test cs) cs
drop_pass test c cs passes = let one : 1 + prefix_len test cs ≡ suc (prefix_len test cs) = omega arith in rw (passes, one) refl

pub drop_fail : (test : ℕ → Bool) (c : ℕ) (cs : List ℕ) → test c ≡ false → drop (prefix_len test (c ∷ cs)) (c ∷ cs) ≡ c ∷ cs
drop_fail test c cs fails = rw fails refl

pub take_pass : (test : ℕ → Bool) (c : ℕ) (cs : List ℕ) → test c ≡ true → take (prefix_len test (c ∷ cs)) (c ∷ cs) ≡ c ∷ take (prefix_len test cs) cs
take_pass test c cs passes = let one : 1 + prefix_len test cs ≡ suc (prefix_len test cs) = omega arith in rw (passes, one) refl

pub take_fail : (test : ℕ → Bool) (c : ℕ) (cs : List ℕ) → test c ≡ false → take (prefix_len test (c ∷ cs)) (c ∷ cs) ≡ []
take_fail test c cs fails = rw fails refl

-- a white space goes, and any other character stays
pub space_gone : (c : ℕ) (cs : List ℕ) → is_space c ≡ true → unspaced (c ∷ cs) ≡ unspaced cs
space_gone c cs space = rw space refl

pub other_kept : (c : ℕ) (cs : List ℕ) → is_space c ≡ false → unspaced (c ∷ cs) ≡ c ∷ unspaced cs
other_kept c cs other = rw other refl

pub leading_gone : (text : List ℕ) → unspaced (drop (prefix_len is_space text) text) ≡ unspaced text
leading_gone [] = refl
leading_gone (c ∷ cs) =
    elim (cases_Bool (is_space c)) [
      | inl space ↦ ap unspaced (drop_pass is_space c cs space) ∙ leading_gone cs ∙ sym (space_gone c cs space)
      | inr other ↦ ap unspaced (drop_fail is_space c cs other)
    ]

leading_first : (text : List ℕ) (c : ℕ) (more : List ℕ) → drop (prefix_len is_space text) text ≡ c ∷ more → is_space c ≡ false
leading_first [] c more is = absurd cc
leading_first (x ∷ xs) c more is =
    elim (cases_Bool (is_space x)) [
      | inl space ↦ leading_first xs c more (sym (drop_pass is_space x xs space) ∙ is)
      | inr other ↦ let same : x ≡ c = cc (drop_fail is_space x xs other, is) in ap is_space (sym same) ∙ other
    ]

-- the first character behind white space, and what follows
first_rest : (rest : List ℕ) → 1 ≤ length rest → rest ≡ get_or rest 0 0 ∷ take (length rest - 1) (drop 1 rest)
first_rest [] some = absurd (omega arith)
first_rest (c ∷ cs) some = let less : suc (length cs) - 1 ≡ length cs = omega arith in ap (λ front. c ∷ front) (sym (ap (λ n. take n cs) less ∙ take-length cs))

pub next_some : (text rest : List ℕ) → rest ≡ drop (prefix_len is_space text) text → 1 ≤ length rest → unspaced text ≡ get_or rest 0 0 ∷ unspaced (take (length rest - 1) (drop 1 rest))
next_some text rest is some =
    let parts = first_rest rest some in
    let first = leading_first text (get_or rest 0 0) (take (length rest - 1) (drop 1 rest)) (sym is ∙ parts) in
    sym (leading_gone text) ∙ ap unspaced (sym is ∙ parts) ∙ other_kept (get_or rest 0 0) (take (length rest - 1) (drop 1 rest)) first

pub next_none : (text rest : List ℕ) → rest ≡ drop (prefix_len is_space text) text → length rest ≡ 0 → unspaced text ≡ []
next_none text [] is none = sym (leading_gone text) ∙ ap unspaced (sym is)
next_none text (c ∷ cs) is none = absurd (omega arith)

-- a filler is no white space, so that the first one is the same in both texts
abbrev is_digit : ℕ → Bool
is_digit c = not (is_filler c)

filler_kept : (c : ℕ) (cs : List ℕ) → is_filler c ≡ true → unspaced (c ∷ cs) ≡ c ∷ unspaced cs
filler_kept c cs filler = other_kept c cs (ap is_space (eqb-true c 61 filler))

pub digits_unspaced : (text : List ℕ) → digits_of (unspaced text) ≡ unspaced (take (position_or_len is_filler text) text)
digits_unspaced [] = refl
digits_unspaced (c ∷ cs) =
    elim (cases_Bool (is_filler c)) [
      | inl filler ↦ ap digits_of (filler_kept c cs filler) ∙ take_fail is_digit c (unspaced cs) (ap not filler) ∙ sym (ap unspaced (take_fail is_digit c cs (ap not filler)))
      | inr digit ↦ elim (cases_Bool (is_space c)) [
        | inl space ↦ ap digits_of (space_gone c cs space) ∙ digits_unspaced cs ∙ sym (space_gone c (take (position_or_len is_filler cs) cs) space) ∙ sym (ap unspaced (take_pass is_digit c cs (ap not digit)))
        | inr other ↦ ap digits_of (other_kept c cs other) ∙ take_pass is_digit c (unspaced cs) (ap not digit) ∙ ap (λ front. c ∷ front) (digits_unspaced cs) ∙ sym (other_kept c (take (position_or_len is_filler cs) cs) other) ∙ sym (ap unspaced (take_pass is_digit c cs (ap not digit)))
      ]
    ]

pub fillers_unspaced : (text : List ℕ) → fillers_of (unspaced text) ≡ unspaced (drop (position_or_len is_filler text) text)
fillers_unspaced [] = refl
fillers_unspaced (c ∷ cs) =
    elim (cases_Bool (is_filler c)) [
      | inl filler ↦ ap fillers_of (filler_kept c cs filler) ∙ drop_fail is_digit c (unspaced cs) (ap not filler) ∙ sym (filler_kept c cs filler) ∙ sym (ap unspaced (drop_fail is_digit c cs (ap not filler)))
      | inr digit ↦ elim (cases_Bool (is_space c)) [
        | inl space ↦ ap fillers_of (space_gone c cs space) ∙ fillers_unspaced cs ∙ sym (ap unspaced (drop_pass is_digit c cs (ap not digit)))
        | inr other ↦ ap fillers_of (other_kept c cs other) ∙ drop_pass is_digit c (unspaced cs) (ap not digit) ∙ fillers_unspaced cs ∙ sym (ap unspaced (drop_pass is_digit c cs (ap not digit)))
      ]
    ]

-- the test of base64 by the two parts of a text, white space left out
pub base64_is : (text front back : List ℕ) → front ≡ take (position_or_len is_filler text) text → back ≡ drop (position_or_len is_filler text) text
    → is_base64 (unspaced text) ≡ (length (unspaced text) % 4 == 0 && (list_all is_base64_digit (unspaced front) && (list_all is_filler (unspaced back) && is_ending (last_from 0 (unspaced front)) (length (unspaced back)))))
unfolding is_base64
base64_is text front back digits fillers = rw (digits, fillers, digits_unspaced text, fillers_unspaced text) refl
