-- Lists without those at their end that pass a test.
use Rattle.std.proofs.Common.{◌≡◌, ℕ, Bool, true, false, ◌&&◌, if◌then◌else◌, ◌==◌, List, [], ◌∷◌, ◌++◌, length, refl, ◌∙◌, arith, length-append, inl, inr}
use Rattle.std.proofs.lemmas.Bool.{ne_eqb, cases_Bool}
use Rattle.rng_more_types.specs.Spaces.{without_trailing}

stripped_same : (test : ℕ → Bool) (c : ℕ) (a b : List ℕ) → a ≡ b → (if test c && length a == 0 then [] else c ∷ a) ≡ (if test c && length b == 0 then [] else c ∷ b)
stripped_same test c a b same = rw same refl

pub trailing_gone : (test : ℕ → Bool) (xs : List ℕ) (c : ℕ) → test c ≡ true → without_trailing test (xs ++ c ∷ []) ≡ without_trailing test xs
trailing_gone test [] c passes = rw passes refl
trailing_gone test (x ∷ xs) c passes = stripped_same test x _ _ (trailing_gone test xs c passes)

kept_by : (test : ℕ → Bool) (x : ℕ) (xs : List ℕ) (c : ℕ) → (if test x && length (xs ++ c ∷ []) == 0 then [] else x ∷ (xs ++ c ∷ [])) ≡ x ∷ (xs ++ c ∷ [])
kept_by test x xs c =
    let some : (length (xs ++ c ∷ []) == 0) ≡ false = ne_eqb _ _ (λ none. absurd (omega (arith, length-append xs (c ∷ []), none))) in
    elim (cases_Bool (test x)) [ inl passes ↦ rw (passes, some) refl | inr fails ↦ rw fails refl ]

pub trailing_kept : (test : ℕ → Bool) (xs : List ℕ) (c : ℕ) → test c ≡ false → without_trailing test (xs ++ c ∷ []) ≡ xs ++ c ∷ []
trailing_kept test [] c fails = rw fails refl
trailing_kept test (x ∷ xs) c fails = stripped_same test x _ _ (trailing_kept test xs c fails) ∙ kept_by test x xs c
