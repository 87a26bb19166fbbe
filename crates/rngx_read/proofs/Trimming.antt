-- Texts without the white space at their end, by their last character.
use Rattle.std.proofs.Common.{◌≡◌, ℕ, true, false, ◌&&◌, List, [], ◌∷◌, ◌++◌, refl, ap, inl, inr}
use Rattle.std.proofs.lemmas.Bool.{cases_Bool}
use Rattle.nx_base.specs.Characters.{is_space, is_blank}
use Rattle.rngx_read.specs.Names.{before_spaces}

blank_with : (front : List ℕ) (last : ℕ) → is_space last ≡ true → is_blank (front ++ last ∷ []) ≡ is_blank front
blank_with [] last space = rw space refl
blank_with (c ∷ front) last space = ap (λ b. is_space c && b) (blank_with front last space)

not_blank : (front : List ℕ) (last : ℕ) → is_space last ≡ false → is_blank (front ++ last ∷ []) ≡ false
not_blank [] last other = rw other refl
not_blank (c ∷ front) last other =
    elim (cases_Bool (is_space c)) [ inl space ↦ rw (space, not_blank front last other) refl | inr none ↦ rw none refl ]

same_before : (c : ℕ) (xs ys : List ℕ) → is_blank xs ≡ is_blank ys → before_spaces xs ≡ before_spaces ys → before_spaces (c ∷ xs)
    ≡ before_spaces (c ∷ ys)
unfolding before_spaces
same_before c xs ys blank same = rw (blank, same) refl

pub last_gone : (front : List ℕ) (last : ℕ) → is_space last ≡ true → before_spaces (front ++ last ∷ []) ≡ before_spaces front
unfolding before_spaces
last_gone [] last space = rw space refl
last_gone (c ∷ front) last space = same_before c (front ++ last ∷ []) front (blank_with front last space) (last_gone front last space)

pub last_kept : (front : List ℕ) (last : ℕ) → is_space last ≡ false → before_spaces (front ++ last ∷ []) ≡ front ++ last ∷ []
unfolding before_spaces
last_kept [] last other = rw other refl
last_kept (c ∷ front) last other = rw (not_blank (c ∷ front) last other, last_kept front last other) refl
