-- Heads that are known, one more of them, and none.
use Rattle.std.proofs.Common.{◌≡◌, ℕ, zero, suc, List, [], ◌∷◌, Option, None, Some, subst, sym, refl, ap, ◌∙◌, length, replicate}
use Rattle.std.proofs.Common.{◌⊎◌, inl, inr}
use Rattle.std.specs.Prelude.{slice_get, set}
use Rattle.rng_core.specs.Patterns.{Definition}
use Rattle.rng_fill.specs.declared.heads.Head.{Head}
use Rattle.rng_fill.specs.declared.heads.Heads.{Heads}
use Rattle.rng_fill.specs.Heads.{IsHeadOf, AreHeads, known_heads}

set_at : (xs : List (Option Head)) (k i : ℕ) (x y : Option Head) → slice_get (set xs k x) i ≡ Some y
    → ((i ≡ k) × (y ≡ x)) ⊎ (slice_get xs i ≡ Some y)
set_at [] k i x y is = inr is
set_at (z ∷ xs) zero zero x y is = inl (refl, cc)
set_at (z ∷ xs) zero (suc i) x y is = inr is
set_at (z ∷ xs) (suc k) zero x y is = inr is
set_at (z ∷ xs) (suc k) (suc i) x y is = go (set_at xs k i x y is)
  where
    go : ((i ≡ k) × (y ≡ x)) ⊎ (slice_get xs i ≡ Some y) → ((suc i ≡ suc k) × (y ≡ x)) ⊎ (slice_get xs i ≡ Some y)
    go (inl w) = let e : i ≡ k = w.0 in inl (cc, w.1)
    go (inr w) = inr w

set_as_many : (xs : List (Option Head)) (k : ℕ) (x : Option Head) → length (set xs k x) ≡ length xs
set_as_many [] k x = refl
set_as_many (z ∷ xs) zero x = refl
set_as_many (z ∷ xs) (suc k) x = let e = set_as_many xs k x in cc

none_is_known : (n i : ℕ) (head : Head) → slice_get (replicate n None) i ≡ Some (Some head) → ⊥
none_is_known zero i head is = cc
none_is_known (suc n) zero head is = cc
none_is_known (suc n) (suc i) head is = none_is_known n i head is

replicated : (n : ℕ) (x : Option Head) → length (replicate n x) ≡ n
replicated zero x = refl
replicated (suc n) x = let e = replicated n x in cc

pub nothing_known : (g : List Definition) (costs : List ℕ) (n : ℕ) (heads : Heads) → n ≡ length g → known_heads heads ≡ replicate n None
    → AreHeads g costs heads
nothing_known g costs n heads many is = record {
  as_many = ap length is ∙ replicated n None ∙ many;
  each = λ i head at. absurd (none_is_known n i head (ap (λ (xs : List (Option Head)). slice_get xs i) (sym is) ∙ at));
}

pub one_more_known : (g : List Definition) (costs : List ℕ) (k : ℕ) (head : Head) (old new : Heads) → AreHeads g costs old
    → IsHeadOf g costs k head → known_heads new ≡ set (known_heads old) k (Some head) → AreHeads g costs new
one_more_known g costs k head old new are right is = record {
  as_many = ap length is ∙ set_as_many (known_heads old) k (Some head) ∙ are.as_many;
  each = λ i other at. go i other (set_at (known_heads old) k i (Some head) (Some other) (ap (λ (xs : List (Option Head)). slice_get xs i) (sym is) ∙ at));
}
  where
    go : (i : ℕ) (other : Head) → ((i ≡ k) × (Some other ≡ Some head)) ⊎ (slice_get (known_heads old) i ≡ Some (Some other)) → IsHeadOf g costs i other
    go i other (inl w) =
        let one : i ≡ k = w.0 in
        let two : Some other ≡ Some head = w.1 in
        let same : other ≡ head = cc in
        subst (λ (h : Head). IsHeadOf g costs i h) (sym same) (subst (λ (j : ℕ). IsHeadOf g costs j head) (sym one) right)
    go i other (inr found) = are.each i other found
