-- Lists by places.
use Rattle.std.proofs.Common.{◌≡◌, ℕ, zero, suc, ◌<◌, ◌≤◌, List, [], ◌∷◌, ◌++◌, length, Option, Some, None, refl, sym, ap, ◌∙◌, arith, inl, inr, ◌⊎◌}
use Rattle.std.specs.Prelude.{slice_get}
use Rattle.std.proofs.Math.ListN.{set}

module _ {A : Type 0} where
  pub at_front : (xs ys : List A) (i : ℕ) (x : A) → slice_get xs i ≡ Some x → slice_get (xs ++ ys) i ≡ Some x
  at_front [] ys i x e = cc
  at_front (y ∷ xs) ys zero x e = e
  at_front (y ∷ xs) ys (suc i) x e = at_front xs ys i x e

  pub at_end : (xs : List A) (x : A) → slice_get (xs ++ x ∷ []) (length xs) ≡ Some x
  at_end [] x = refl
  at_end (y ∷ xs) x = at_end xs x

  -- a place in a list with one more is one of the list, or the last
  pub front_or_end : (xs : List A) (x : A) (i : ℕ) (y : A) → slice_get (xs ++ x ∷ []) i ≡ Some y → (slice_get xs i ≡ Some y) ⊎ ((i ≡ length xs) × (x ≡ y))
  front_or_end [] x zero y e = inr (refl, cc)
  front_or_end [] x (suc i) y e = cc
  front_or_end (z ∷ xs) x zero y e = inl e
  front_or_end (z ∷ xs) x (suc i) y e = elim (front_or_end xs x i y e) [ inl h ↦ inl h | inr h ↦ inr (ap suc h.0, h.1) ]

  pub set_here : (xs : List A) (i : ℕ) (x : A) → i < length xs → slice_get (set xs i x) i ≡ Some x
  set_here [] i x h = absurd (omega arith)
  set_here (y ∷ xs) zero x h = refl
  set_here (y ∷ xs) (suc i) x h = set_here xs i x (omega arith)

  pub set_there : (xs : List A) (i j : ℕ) (x : A) → (j ≡ i → ⊥) → slice_get (set xs i x) j ≡ slice_get xs j
  set_there [] i j x h = refl
  set_there (y ∷ xs) zero zero x h = absurd (h refl)
  set_there (y ∷ xs) zero (suc j) x h = refl
  set_there (y ∷ xs) (suc i) zero x h = refl
  set_there (y ∷ xs) (suc i) (suc j) x h = set_there xs i j x (λ e. h (ap suc e))
