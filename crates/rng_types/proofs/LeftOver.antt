-- Of more candidates than there are excepts one is left, where each except takes at most one.
use Rattle.std.specs.Prelude.{◌≡◌, ℕ, zero, suc, ◌+◌, ◌<◌, ◌≤◌, ◌⊎◌, Bool, true, false, cond, not, List, [], ◌∷◌, length}
use Rattle.std.proofs.Common.{refl, sym, ap, ◌∙◌, arith, ltb, inl, inr}
use Rattle.std.proofs.lemmas.Bool.{and_from, or_left, or_right, or_cases, not_from_false, false_from_ne_true, cases_Bool, false≢true, cases_lt, lt-ltb, le-ltb, cases_eq}
use Rattle.std.specs.List.{list_all, AllByRecursion}
use Rattle.rng_types.specs.NumberMembers.{some_below}

-- of the candidates below n this takes at most one
pub record TakesOne (takes : ℕ → Bool) (n : ℕ) : Type 0 where
  pub once : (i j : ℕ) → i < n → j < n → takes i ≡ true → takes j ≡ true → i ≡ j

-- a number below n that passes a test
pub record Found (test : ℕ → Bool) (n : ℕ) : Type 0 where
  pub at : ℕ
  pub below : at < n
  pub passes : test at ≡ true

pub found_more : {test : ℕ → Bool} {n : ℕ} → Found test n → Found test (suc n)
found_more found = record { at = found.at; below = omega (arith, found.below); passes = found.passes }

pub found : (test : ℕ → Bool) (n : ℕ) → some_below test n ≡ true → Found test n
found test zero none = absurd (false≢true none)
found test (suc n) some =
    elim (or_cases (test n) (some_below test n) some) [
      | inl here ↦ record { at = n; below = omega arith; passes = here }
      | inr before ↦ found_more (found test n before)
    ]

pub some_from : (test : ℕ → Bool) (n i : ℕ) → i < n → test i ≡ true → some_below test n ≡ true
some_from test zero i below passes = absurd (omega arith)
some_from test (suc n) i below passes =
    elim (cases_eq i n) [
      | inl here ↦ or_left (test n) (some_below test n) (ap test (sym here) ∙ passes)
      | inr before ↦ or_right (test n) (some_below test n) (some_from test n i (omega arith) passes)
    ]

none_found : (test : ℕ → Bool) (n i : ℕ) → some_below test n ≡ false → i < n → test i ≡ false
none_found test n i none below = false_from_ne_true (test i) (λ passes. false≢true (sym none ∙ some_from test n i below passes))

-- the numbers but one
skip : ℕ → ℕ → ℕ
skip k i = cond (ltb i k) i (i + 1)

skip-cases : (k i : ℕ) → ((i < k) × (skip k i ≡ i)) ⊎ ((k ≤ i) × (skip k i ≡ i + 1))
unfolding skip
skip-cases k i =
    elim (cases_lt i k) [
      | inl below ↦ inl (below, rw (lt-ltb i k below) refl)
      | inr above ↦ inr (above, rw (le-ltb i k above) refl)
    ]

skip-other : (k i : ℕ) → skip k i ≡ k → ⊥
skip-other k i same = elim (skip-cases k i) [ inl h ↦ absurd (omega (arith, h.0, h.1, same)) | inr h ↦ absurd (omega (arith, h.0, h.1, same)) ]

skip-below : (k i m : ℕ) → i < m → skip k i < suc m
skip-below k i m below = elim (skip-cases k i) [ inl h ↦ omega (arith, h.0, h.1) | inr h ↦ omega (arith, h.0, h.1) ]

skip-same : (k i j : ℕ) → skip k i ≡ skip k j → i ≡ j
skip-same k i j same =
    elim (skip-cases k i) [
      | inl h ↦ elim (skip-cases k j) [ inl g ↦ omega (arith, h.0, h.1, g.0, g.1, same) | inr g ↦ absurd (omega (arith, h.0, h.1, g.0, g.1, same)) ]
      | inr h ↦ elim (skip-cases k j) [ inl g ↦ absurd (omega (arith, h.0, h.1, g.0, g.1, same)) | inr g ↦ omega (arith, h.0, h.1, g.0, g.1, same) ]
    ]

fewer : (takes : ℕ → Bool) (k m : ℕ) → TakesOne takes (suc m) → TakesOne (λ i. takes (skip k i)) m
fewer takes k m one = record {
  once = λ i j hi hj ti tj. skip-same k i j (one.once (skip k i) (skip k j) (skip-below k i m hi) (skip-below k j m hj) ti tj);
}

module _ {E : Type 0} where
  each_fewer : (takes : E → ℕ → Bool) (k m : ℕ) (es : List E) → AllByRecursion (λ e. TakesOne (takes e) (suc m)) es → AllByRecursion (λ e. TakesOne (λ i. takes e (skip k i)) m) es
  each_fewer takes k m [] each = tt
  each_fewer takes k m (e ∷ es) each = (fewer (takes e) k m each.0, each_fewer takes k m es each.1)

  -- the candidate that is left
  pub record Left (takes : E → ℕ → Bool) (es : List E) (n : ℕ) : Type 0 where
    pub at : ℕ
    pub below : at < n
    pub free : list_all (λ e. not (takes e at)) es ≡ true

  pub one_left : (es : List E) (takes : E → ℕ → Bool) (n : ℕ) → AllByRecursion (λ e. TakesOne (takes e) n) es → length es < n → Left takes es n
  one_left [] takes n each less = record { at = 0; below = omega arith; free = refl }
  one_left (e ∷ es) takes zero each less = absurd (omega arith)
  one_left (e ∷ es) takes (suc m) each less =
      elim (cases_Bool (some_below (takes e) (suc m))) [
        | inl some ↦
            let taken = found (takes e) (suc m) some in
            let k : ℕ = taken.at in
            let rest = one_left es (λ d i. takes d (skip k i)) m (each_fewer takes k m es each.1) (omega arith) in
            let i : ℕ = skip k rest.at in
            let inside : i < suc m = skip-below k rest.at m rest.below in
            let spared : takes e i ≡ false = false_from_ne_true _ (λ h. skip-other k rest.at (each.0.once i k inside taken.below h taken.passes)) in
            record { at = i; below = inside; free = and_from _ _ (not_from_false _ spared) rest.free }
        | inr none ↦
            let rest = one_left es takes (suc m) each.1 (omega arith) in
            record { at = rest.at; below = rest.below; free = and_from _ _ (not_from_false _ (none_found (takes e) (suc m) rest.at none rest.below)) rest.free }
      ]
