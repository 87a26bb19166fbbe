-- The rounds from below end in marks that are derived and closed.
use Rattle.std.proofs.Common.{◌≡◌, ℕ, zero, suc, ◌≤◌, ◌<◌, List, [], ◌∷◌, Bool, true, false, ◌&&◌, ◌||◌, Option, Some, None, refl, sym, ap, inl, inr, ◌⊎◌, ⊎_elim, ◌∙◌, arith, length, map, true≢false}
use Rattle.std.specs.Prelude.{slice_get, option_map}
use Rattle.std.proofs.lemmas.Option.{slice_get-map}
use Rattle.rng_core.specs.Patterns.{Pattern, Definition, not_allowed, empty, any_text, typed, literal, listed, attribute, ref, one_or_more, choice, group, interleave}
use Rattle.rng_kept.specs.Nullable.{nullable}
use Rattle.rng_kept.specs.SolidStrings.{has_words}
use Rattle.rng_residual.proofs.SmallPatterns.{and_true, or_true}
use Rattle.rng_residual.proofs.Nullable.{true_and, true_or_left, true_or_right}
use Rattle.rng_live.specs.Living.{has_string, has_some_attribute_name, has_some_name, lives_with, definition_lives_with}
use Rattle.rng_live.specs.Conditions.{is_true_at, is_marked}
use Rattle.rng_live.proofs.Fitting.{round, rounds, living, AllFit, AreDerived, AreClosed}
use Rattle.rng_live.proofs.Claims.{RoundsSettle}
use Rattle.rng_live.proofs.Exact.{definition_lives_out}

-- ---- marks that are computed

pub record MarkedBy (f : Definition → Bool) (g : List Definition) (i : ℕ) : Type 0 where
  pub definition : Definition
  pub is : slice_get g i ≡ Some definition
  pub passes : f definition ≡ true

found : (f : Definition → Bool) (g : List Definition) (i : ℕ) (o : Option Definition) → slice_get g i ≡ o → is_true_at (option_map f o) ≡ true → MarkedBy f g i
found f g i None e h = cc
found f g i (Some d) e h = record { definition = d; is = e; passes = h }

pub marked_by : (f : Definition → Bool) (g : List Definition) (i : ℕ) → is_marked (map f g) i ≡ true → MarkedBy f g i
marked_by f g i h = found f g i (slice_get g i) refl (sym (ap is_true_at (slice_get-map f g i)) ∙ h)

pub marks_by : (f : Definition → Bool) (g : List Definition) (i : ℕ) (d : Definition) → slice_get g i ≡ Some d → is_marked (map f g) i ≡ f d
marks_by f g i d e = ap is_true_at (slice_get-map f g i) ∙ ap (λ (o : Option Definition). is_true_at (option_map f o)) e

-- ---- derived

pub rounds_derived : (named : ℕ → Bool) (g : List Definition) → AllFit named g → (n : ℕ) → AreDerived named g (rounds g n)
rounds_derived named g fit zero = record { derived = λ i k h. absurd (let w = marked_by (λ d. false) g i h in true≢false (sym w.passes)) }
rounds_derived named g fit (suc n) = record {
  derived = λ i k h.
      let w = marked_by (definition_lives_with (rounds g n)) g i h in
      definition_lives_out (rounds g n) (rounds_derived named g fit n) i w.definition w.is (fit.content i w.definition k w.is) w.passes;
}

-- ---- more and more marks

pub data Below : List Bool → List Bool → Type 0 where
  below_none : Below [] []
  below_one : {b d : Bool} {m l : List Bool} → (b ≡ true → d ≡ true) → Below m l → Below (b ∷ m) (d ∷ l)

pub map_below : {A : Type 0} (f h : A → Bool) (g : List A) → ((d : A) → f d ≡ true → h d ≡ true) → Below (map f g) (map h g)
map_below f h [] k = below_none
map_below f h (d ∷ g) k = below_one (k d) (map_below f h g k)

pub marked_below : {m l : List Bool} → Below m l → (i : ℕ) → is_marked m i ≡ true → is_marked l i ≡ true
marked_below below_none i h = h
marked_below (below_one k b) zero h = k h
marked_below (below_one k b) (suc i) h = marked_below b i h

module _ {m l : List Bool} (b : Below m l) where
  lives_more : (p : Pattern) → lives_with m p ≡ true → lives_with l p ≡ true
  lives_more not_allowed h = h
  lives_more empty h = h
  lives_more any_text h = h
  lives_more (typed type es) h = h
  lives_more (literal type t) h = h
  lives_more (listed p) h = let d = and_true (has_words p || nullable p) (lives_with m p) h in true_and (has_words p || nullable p) (lives_with l p) d.0 (lives_more p d.1)
  lives_more (attribute c p) h =
      let d = and_true (has_some_attribute_name c && (has_string p || nullable p)) (lives_with m p) h in
      true_and (has_some_attribute_name c && (has_string p || nullable p)) (lives_with l p) d.0 (lives_more p d.1)
  lives_more (ref i) h = marked_below b i h
  lives_more (one_or_more p) h = lives_more p h
  lives_more (choice p q) h =
      ⊎_elim
      (λ e. true_or_left (lives_with l p) (lives_with l q) (lives_more p e))
      (λ e. true_or_right (lives_with l p) (lives_with l q) (lives_more q e))
      (or_true (lives_with m p) (lives_with m q) h)
  lives_more (group p q) h = let d = and_true (lives_with m p) (lives_with m q) h in true_and (lives_with l p) (lives_with l q) (lives_more p d.0) (lives_more q d.1)
  lives_more (interleave p q) h = let d = and_true (lives_with m p) (lives_with m q) h in true_and (lives_with l p) (lives_with l q) (lives_more p d.0) (lives_more q d.1)

  definition_lives_more : (d : Definition) → definition_lives_with m d ≡ true → definition_lives_with l d ≡ true
  definition_lives_more d h = let e = and_true (has_some_name d.class) (lives_with m d.content) h in true_and (has_some_name d.class) (lives_with l d.content) e.0 (lives_more d.content e.1)

rounds_below : (g : List Definition) (n : ℕ) → Below (rounds g n) (rounds g (suc n))
rounds_below g zero = map_below (λ d. false) (definition_lives_with (rounds g zero)) g (λ d e. absurd (true≢false (sym e)))
rounds_below g (suc n) =
    map_below (definition_lives_with (rounds g n)) (definition_lives_with (rounds g (suc n))) g (definition_lives_more (rounds_below g n))

-- ---- until there are no more

pub count : List Bool → ℕ
count [] = zero
count (true ∷ m) = suc (count m)
count (false ∷ m) = count m

pub count_within : (m : List Bool) → count m ≤ length m
unfolding count
count_within [] = omega arith
count_within (true ∷ m) = let h = count_within m in omega arith
count_within (false ∷ m) = let h = count_within m in omega arith

pub grows : {m l : List Bool} → Below m l → ((m ≡ l) × (count m ≡ count l)) ⊎ (count m < count l)
unfolding count
grows below_none = inl (refl, refl)
grows (below_one {b = true} {d = true} k b) = ⊎_elim (λ e. inl (ap (λ (x : List Bool). true ∷ x) e.0, ap suc e.1)) (λ e. inr (omega arith)) (grows b)
grows (below_one {b = false} {d = false} k b) = ⊎_elim (λ e. inl (ap (λ (x : List Bool). false ∷ x) e.0, e.1)) (λ e. inr e) (grows b)
grows (below_one {b = true} {d = false} k b) = absurd (true≢false (sym (k refl)))
grows (below_one {b = false} {d = true} k b) = ⊎_elim (λ e. inr (let f = e.1 in omega arith)) (λ e. inr (omega arith)) (grows b)

map_length : (f : Definition → Bool) (g : List Definition) → length (map f g) ≡ length g
map_length f [] = refl
map_length f (d ∷ g) = let h = map_length f g in omega arith

rounds_length : (g : List Definition) (n : ℕ) → length (rounds g n) ≡ length g
rounds_length g zero = map_length (λ d. false) g
rounds_length g (suc n) = map_length (definition_lives_with (rounds g n)) g

settles : (g : List Definition) (n : ℕ) → (rounds g n ≡ rounds g (suc n)) ⊎ (n ≤ count (rounds g n))
settles g zero = inr (omega arith)
settles g (suc n) =
    ⊎_elim
    (λ e. inl (ap (round g) e))
    (λ h. ⊎_elim (λ e. inl (ap (round g) e.0)) (λ l. inr (omega arith)) (grows (rounds_below g n)))
    (settles g n)

pub living_is_settled : (g : List Definition) → living g ≡ round g (living g)
living_is_settled g =
    ⊎_elim
    (λ e. e)
    (λ h. ⊎_elim
    (λ e. e.0)
    (λ l. absurd (let k = count_within (rounds g (suc (length g))) in let j = rounds_length g (suc (length g)) in omega arith))
    (grows (rounds_below g (length g))))
    (settles g (length g))

pub living_is_closed : (g : List Definition) → AreClosed g (living g)
living_is_closed g = record {
  closed = λ i d e h. ap (λ (m : List Bool). is_marked m i) (living_is_settled g) ∙ marks_by (definition_lives_with (living g)) g i d e ∙ h;
}

pub rounds_settle : RoundsSettle
rounds_settle named g fit = (rounds_derived named g fit (length g), living_is_closed g)
