-- Fronts of a list that pass a test.
use Rattle.std.proofs.Common.{◌≡◌, ℕ, zero, suc, ◌+◌, ◌<◌, ◌≤◌, Bool, true, false, inl, inr, List, [], ◌∷◌, length, take, refl, ◌∙◌, ap, arith}
use Rattle.std.specs.Prelude.{Option, Some, None}
use Rattle.std.specs.Option.{option_map}
use Rattle.std.proofs.lemmas.Bool.{cases_Bool}
use Rattle.nx_base.specs.Form.{shortest_front, passing_front, IsShortestFront, IsPassingFront}

-- no front passes, or none so far
none-empty : (p : List ℕ → Bool) (n : ℕ) → p [] ≡ false → p (take n []) ≡ false
none-empty p zero h = h
none-empty p (suc n) h = h

none-more : (p : List ℕ → Bool) (c : ℕ) (cs : List ℕ) (n : ℕ) → p [] ≡ false → ((k : ℕ) → p (c ∷ take k cs) ≡ false) → p (take n (c ∷ cs)) ≡ false
none-more p c cs zero h none = h
none-more p c cs (suc n) h none = none n

some-more : (p : List ℕ → Bool) (c : ℕ) (cs front : List ℕ) (n : ℕ) → p [] ≡ false → ((k : ℕ) → k < length front → p (c ∷ take k cs) ≡ false) →
    n < suc (length front) → p (take n (c ∷ cs)) ≡ false
some-more p c cs front zero h none lt = h
some-more p c cs front (suc n) h none lt = none n (omega arith)

-- the empty front passes
empty-shortest : (p : List ℕ → Bool) (cs : List ℕ) → p [] ≡ true → IsShortestFront p cs (Some [])
empty-shortest p cs h = (h, refl, λ n lt. absurd (omega arith))

shortest-nil : (p : List ℕ → Bool) → p [] ≡ false → shortest_front p [] ≡ None
unfolding shortest_front
shortest-nil p h = rw h refl

shortest-empty : (p : List ℕ → Bool) (cs : List ℕ) → p [] ≡ true → shortest_front p cs ≡ Some []
unfolding shortest_front
shortest-empty p [] h = rw h refl
shortest-empty p (c ∷ cs) h = rw h refl

shortest-cons : (p : List ℕ → Bool) (c : ℕ) (cs : List ℕ) → p [] ≡ false →
    shortest_front p (c ∷ cs) ≡ option_map (λ front. c ∷ front) (shortest_front (λ front. p (c ∷ front)) cs)
unfolding shortest_front
shortest-cons p c cs h = rw h refl

more-shortest : (p : List ℕ → Bool) (c : ℕ) (cs : List ℕ) (found : Option (List ℕ)) → p [] ≡ false → IsShortestFront (λ front. p (c ∷ front)) cs found →
    IsShortestFront p (c ∷ cs) (option_map (λ front. c ∷ front) found)
more-shortest p c cs None h is = λ n. none-more p c cs n h is
more-shortest p c cs (Some front) h is = (is.0, ap (λ xs. c ∷ xs) is.1, λ n lt. some-more p c cs front n h is.2 lt)

pub shortest-exactly : (cs : List ℕ) (p : List ℕ → Bool) → IsShortestFront p cs (shortest_front p cs)
shortest-exactly [] p =
    elim (cases_Bool (p []))
    [ inl h ↦ rw (shortest-empty p [] h) (empty-shortest p [] h) | inr h ↦ rw (shortest-nil p h) (λ n. none-empty p n h) ]
shortest-exactly (c ∷ cs) p =
    elim (cases_Bool (p [])) [
      | inl h ↦ rw (shortest-empty p (c ∷ cs) h) (empty-shortest p (c ∷ cs) h)
      | inr h ↦ rw (shortest-cons p c cs h)
          (more-shortest p c cs (shortest_front (λ front. p (c ∷ front)) cs) h (shortest-exactly cs (λ front. p (c ∷ front))))
    ]

-- the front that passes all the way
passing-on : (p : List ℕ → Bool) (c : ℕ) (cs : List ℕ) → p (c ∷ []) ≡ true → passing_front p (c ∷ cs) ≡ c ∷ passing_front (λ front. p (c ∷ front)) cs
unfolding passing_front
passing-on p c cs h = rw h refl

passing-off : (p : List ℕ → Bool) (c : ℕ) (cs : List ℕ) → p (c ∷ []) ≡ false → passing_front p (c ∷ cs) ≡ []
unfolding passing_front
passing-off p c cs h = rw h refl

passes-more : (p : List ℕ → Bool) (c : ℕ) (cs front : List ℕ) (n : ℕ) → p (c ∷ []) ≡ true →
    ((k : ℕ) → 0 < k → k ≤ length front → p (c ∷ take k cs) ≡ true) → 0 < n → n ≤ suc (length front) → p (take n (c ∷ cs)) ≡ true
passes-more p c cs front zero h more some le = absurd (omega arith)
passes-more p c cs front (suc zero) h more some le = h
passes-more p c cs front (suc (suc n)) h more some le = more (suc n) (omega arith) (omega arith)

more-passing : (p : List ℕ → Bool) (c : ℕ) (cs front : List ℕ) → p (c ∷ []) ≡ true → IsPassingFront (λ xs. p (c ∷ xs)) cs front → IsPassingFront p (c ∷ cs) (c ∷ front)
more-passing p c cs front h is = record {
  front_of = ap (λ xs. c ∷ xs) is.front_of;
  passes = λ n some le. passes-more p c cs front n h is.passes some le;
  stops = λ lt. ap (λ n. p (take n (c ∷ cs))) (let e : suc (length front) + 1 ≡ suc (length front + 1) = omega arith in e) ∙ is.stops (omega arith);
}

pub passing-exactly : (cs : List ℕ) (p : List ℕ → Bool) → IsPassingFront p cs (passing_front p cs)
unfolding passing_front
passing-exactly [] p = record { front_of = refl; passes = λ n some le. absurd (omega arith); stops = λ lt. absurd (omega arith) }
passing-exactly (c ∷ cs) p =
    elim (cases_Bool (p (c ∷ []))) [
      | inl h ↦ rw (passing-on p c cs h)
          (more-passing p c cs (passing_front (λ front. p (c ∷ front)) cs) h (passing-exactly cs (λ front. p (c ∷ front))))
      | inr h ↦ rw (passing-off p c cs h)
          (record { front_of = refl; passes = λ n some le. absurd (omega arith); stops = λ lt. ap (λ n. p (take n (c ∷ cs))) (let e : 0 + 1 ≡ suc 0 = omega arith in e) ∙ h })
    ]
