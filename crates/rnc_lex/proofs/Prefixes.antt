-- The longest front of which each item passes a test.
use Rattle.std.proofs.Common.{◌≡◌, ℕ, suc, ◌+◌, ◌≤◌, Bool, true, false, not, ◌&&◌, ◌||◌, List, [], ◌∷◌, ◌++◌, length, take, drop, refl, ap, ◌∙◌, arith}
use Rattle.std.specs.List.{prefix_len, AllByRecursion}
use Rattle.std.proofs.lemmas.List.{take_at, drop_at, length-append}

-- each passes the test
abbrev pub Pass : {X : Type 0} → (X → Bool) → List X → Type 0
Pass p items = AllByRecursion (λ x. p x ≡ true) items

-- the first fails it, if there is one
abbrev pub FirstFails : {X : Type 0} → (X → Bool) → List X → Type 0
FirstFails p [] = Unit {0}
FirstFails p (x ∷ items) = p x ≡ false

pub prefix_len_is : {X : Type 0} (p : X → Bool) (front rest : List X) → Pass p front → FirstFails p rest → prefix_len p (front ++ rest) ≡ length front
prefix_len_is p [] [] h k = refl
prefix_len_is p [] (x ∷ rest) h k = rw k refl
prefix_len_is p (x ∷ front) rest (h, more) k = rw (h, prefix_len_is p front rest more k) (omega arith)

front_passes_cons : {X : Type 0} (p : X → Bool) (x : X) (items : List X) (test : Bool) → p x ≡ test → Pass p (take (prefix_len p items) items) → Pass p (take (prefix_len p (x ∷ items)) (x ∷ items))
front_passes_cons p x items true e h = let n : 1 + prefix_len p items ≡ suc (prefix_len p items) = omega arith in rw (e, n) (e, h)
front_passes_cons p x items false e h = rw e tt

pub front_passes : {X : Type 0} (p : X → Bool) (items : List X) → Pass p (take (prefix_len p items) items)
front_passes p [] = tt
front_passes p (x ∷ items) = front_passes_cons p x items (p x) refl (front_passes p items)

rest_fails_cons : {X : Type 0} (p : X → Bool) (x : X) (items : List X) (test : Bool) → p x ≡ test → FirstFails p (drop (prefix_len p items) items) → FirstFails p (drop (prefix_len p (x ∷ items)) (x ∷ items))
rest_fails_cons p x items true e h = let n : 1 + prefix_len p items ≡ suc (prefix_len p items) = omega arith in rw (e, n) h
rest_fails_cons p x items false e h = rw e e

pub rest_fails : {X : Type 0} (p : X → Bool) (items : List X) → FirstFails p (drop (prefix_len p items) items)
rest_fails p [] = tt
rest_fails p (x ∷ items) = rest_fails_cons p x items (p x) refl (rest_fails p items)

-- two tests that hold
pub both : (a b : Bool) → a ≡ true → b ≡ true → a && b ≡ true
both a b e f = rw (e, f) refl

pub or_none : (a b : Bool) → a || b ≡ false → (a ≡ false) × (b ≡ false)
or_none true b e = absurd cc
or_none false b e = (refl, e)

pub not_false : (b : Bool) → not b ≡ true → b ≡ false
not_false true e = absurd cc
not_false false e = refl

-- a front of so many
pub take_front : {X : Type 0} (items front rest : List X) (n : ℕ) → items ≡ front ++ rest → length front ≡ n → (take n items ≡ front) × (drop n items ≡ rest) × (n ≤ length items)
take_front items front rest n e len =
    let long = length-append front rest in
    (ap (take n) e ∙ take_at front rest n len, ap (drop n) e ∙ drop_at front rest n len, let whole = ap length e in omega (arith, whole, long, len))
