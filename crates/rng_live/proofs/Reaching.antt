-- The rounds find exactly what is reached, and each number once.
use Rattle.std.proofs.Common.{◌≡◌, ℕ, zero, suc, ◌+◌, ◌≤◌, List, [], ◌∷◌, Bool, true, false, not, ◌&&◌, ◌||◌, Option, Some, None, refl, sym, ap, subst, inl, inr, ◌⊎◌, ⊎_elim, ◌∙◌, arith, length, map, true≢false}
use Rattle.std.specs.Prelude.{slice_get, option_map, ◌==◌, if◌then◌else◌}
use Rattle.std.proofs.lemmas.Bool.{eqb-true}
use Rattle.std.proofs.lemmas.Option.{slice_get-map}
use Rattle.rng_core.specs.Patterns.{Pattern, Definition, not_allowed, empty, any_text, typed, literal, listed, attribute, ref, one_or_more, choice, group, interleave}
use Rattle.rng_residual.proofs.SmallPatterns.{and_true, or_true}
use Rattle.rng_residual.proofs.Nullable.{true_and, true_or_left, true_or_right}
use Rattle.rng_live.specs.Conditions.{is_true_at, is_marked}
use Rattle.rng_live.specs.Left.{refs_are}
use Rattle.rng_live.specs.Pruned.{Reaches, reaches_first, reaches_more}
use Rattle.rng_live.proofs.Renumbered.{is_kept}
use Rattle.rng_restrict.specs.Standing.{Stands, itself, in_list, in_attribute, in_one_or_more, in_first_choice, in_second_choice, in_first_of_group, in_second_of_group, in_first_of_interleave, in_second_of_interleave}
use Rattle.rng_live.proofs.ReachRounds.{refers, some_refers, numbers_from, reach_round, reach_rounds, marked_numbers, reached_numbers, is_there, refs_there, ReachedAreKept}
use Rattle.rng_live.proofs.Rounds.{Below, map_below, marked_below, count, count_within, grows}

-- ---- numbers in a row

numbers_get : (k : ℕ) (ds : List Definition) (j : ℕ) (d : Definition) → slice_get ds j ≡ Some d → slice_get (numbers_from k ds) j ≡ Some (k + j)
numbers_get k [] j d e = cc
numbers_get k (x ∷ ds) zero d e = let s : k ≡ k + 0 = omega arith in ap (λ (v : ℕ). Some v) s
numbers_get k (x ∷ ds) (suc j) d e = let s : suc k + j ≡ k + suc j = omega arith in numbers_get (suc k) ds j d e ∙ ap (λ (v : ℕ). Some v) s

numbers_none : (k : ℕ) (ds : List Definition) (j : ℕ) → slice_get ds j ≡ None → slice_get (numbers_from k ds) j ≡ None
numbers_none k [] j e = refl
numbers_none k (x ∷ ds) zero e = cc
numbers_none k (x ∷ ds) (suc j) e = numbers_none (suc k) ds j e

numbers_length : (f : ℕ → Bool) (k : ℕ) (ds : List Definition) → length (map f (numbers_from k ds)) ≡ length ds
numbers_length f k [] = refl
numbers_length f k (x ∷ ds) = let h = numbers_length f (suc k) ds in omega arith

at_number : (f : ℕ → Bool) (g : List Definition) (i : ℕ) (d : Definition) → slice_get g i ≡ Some d → is_marked (map f (numbers_from 0 g)) i ≡ f i
at_number f g i d e =
    let s : 0 + i ≡ i = omega arith in
    ap is_true_at (slice_get-map f (numbers_from 0 g) i) ∙ ap (λ (o : Option ℕ). is_true_at (option_map f o)) (numbers_get 0 g i d e) ∙ ap f s

record AtNumber (f : ℕ → Bool) (g : List Definition) (i : ℕ) : Type 0 where
  definition : Definition
  there : slice_get g i ≡ Some definition
  passes : f i ≡ true

number_back : (f : ℕ → Bool) (g : List Definition) (i : ℕ) → is_marked (map f (numbers_from 0 g)) i ≡ true → AtNumber f g i
number_back f g i h = go (slice_get g i) refl
  where
    go : (o : Option Definition) → slice_get g i ≡ o → AtNumber f g i
    go (Some d) e = record { definition = d; there = e; passes = sym (at_number f g i d e) ∙ h }
    go None e = absurd (true≢false (sym h ∙ ap is_true_at (slice_get-map f (numbers_from 0 g) i) ∙ ap (λ (o : Option ℕ). is_true_at (option_map f o)) (numbers_none 0 g i e)))

-- ---- contents of marked definitions

record SomeRefers (i : ℕ) (m : List Bool) (ds : List Definition) : Type 0 where
  number : ℕ
  definition : Definition
  there : slice_get ds number ≡ Some definition
  marked : is_marked m number ≡ true
  refers_to : refers i definition.content ≡ true

some_out : (i : ℕ) (m : List Bool) (ds : List Definition) → some_refers i m ds ≡ true → SomeRefers i m ds
some_out i [] ds h = cc
some_out i (b ∷ m) [] h = cc
some_out i (b ∷ m) (d ∷ ds) h =
    ⊎_elim
    (λ e. let x = and_true b (refers i d.content) e in record { number = zero; definition = d; there = refl; marked = x.0; refers_to = x.1 })
    (λ e. let w = some_out i m ds e in record { number = suc w.number; definition = w.definition; there = w.there; marked = w.marked; refers_to = w.refers_to })
    (or_true (b && refers i d.content) (some_refers i m ds) h)

some_in : (i : ℕ) (m : List Bool) (ds : List Definition) (j : ℕ) (d : Definition) → slice_get ds j ≡ Some d → is_marked m j ≡ true → refers i d.content ≡ true → some_refers i m ds ≡ true
some_in i [] ds j d e k r = absurd (true≢false (sym k))
some_in i (b ∷ m) [] j d e k r = cc
some_in i (b ∷ m) (x ∷ ds) zero d e k r =
    let same : d ≡ x = cc in
    true_or_left (b && refers i x.content) (some_refers i m ds) (true_and b (refers i x.content) k (subst (λ (y : Definition). refers i y.content ≡ true) same r))
some_in i (b ∷ m) (x ∷ ds) (suc j) d e k r = true_or_right (b && refers i x.content) (some_refers i m ds) (some_in i m ds j d e k r)

some_more : (i : ℕ) {m l : List Bool} (ds : List Definition) → Below m l → some_refers i m ds ≡ true → some_refers i l ds ≡ true
some_more i {m = m} {l = l} ds b h = let w = some_out i m ds h in some_in i l ds w.number w.definition w.there (marked_below b w.number w.marked) w.refers_to

-- ---- references that stand in a pattern

and_false : (a b : Bool) → (a && b) ≡ false → (a ≡ false) ⊎ (b ≡ false)
and_false true b h = inr h
and_false false b h = inl refl

ref_stands : (i : ℕ) (p : Pattern) → refs_are (λ j. if j == i then false else true) p ≡ false → Stands (ref i) p
ref_stands i not_allowed k = absurd (true≢false k)
ref_stands i empty k = absurd (true≢false k)
ref_stands i any_text k = absurd (true≢false k)
ref_stands i (typed type es) k = absurd (true≢false k)
ref_stands i (literal type t) k = absurd (true≢false k)
ref_stands i (ref j) k = go (j == i) refl k
  where
    go : (b : Bool) → (j == i) ≡ b → (if b then false else true) ≡ false → Stands (ref i) (ref j)
    go true e f = subst (λ (x : ℕ). Stands (ref x) (ref j)) (eqb-true j i e) itself
    go false e f = absurd (true≢false f)
ref_stands i (listed p) k = in_list (ref_stands i p k)
ref_stands i (attribute c p) k = in_attribute (ref_stands i p k)
ref_stands i (one_or_more p) k = in_one_or_more (ref_stands i p k)
ref_stands i (choice p q) k =
    ⊎_elim (λ f. in_first_choice (ref_stands i p f)) (λ f. in_second_choice (ref_stands i q f)) (and_false (refs_are (λ j. if j == i then false else true) p) (refs_are (λ j. if j == i then false else true) q) k)
ref_stands i (group p q) k =
    ⊎_elim (λ f. in_first_of_group (ref_stands i p f)) (λ f. in_second_of_group (ref_stands i q f)) (and_false (refs_are (λ j. if j == i then false else true) p) (refs_are (λ j. if j == i then false else true) q) k)
ref_stands i (interleave p q) k =
    ⊎_elim (λ f. in_first_of_interleave (ref_stands i p f)) (λ f. in_second_of_interleave (ref_stands i q f)) (and_false (refs_are (λ j. if j == i then false else true) p) (refs_are (λ j. if j == i then false else true) q) k)

-- ---- rounds

module _ (start : Pattern) (g : List Definition) where
  now_more : {m l : List Bool} → Below m l → (i : ℕ) → (refers i start || some_refers i m g) ≡ true → (refers i start || some_refers i l g) ≡ true
  now_more {m = m} {l = l} b i h =
      ⊎_elim (λ e. true_or_left (refers i start) (some_refers i l g) e) (λ e. true_or_right (refers i start) (some_refers i l g) (some_more i g b e)) (or_true (refers i start) (some_refers i m g) h)

  reach_below : (n : ℕ) → Below (reach_rounds start g n) (reach_rounds start g (suc n))
  reach_below zero = map_below (λ i. false) (λ i. refers i start || some_refers i (reach_rounds start g zero) g) (numbers_from 0 g) (λ i e. absurd (true≢false (sym e)))
  reach_below (suc n) =
      map_below (λ i. refers i start || some_refers i (reach_rounds start g n) g) (λ i. refers i start || some_refers i (reach_rounds start g (suc n)) g) (numbers_from 0 g) (now_more (reach_below n))

  reach_length : (n : ℕ) → length (reach_rounds start g n) ≡ length g
  reach_length zero = numbers_length (λ i. false) 0 g
  reach_length (suc n) = numbers_length (λ i. refers i start || some_refers i (reach_rounds start g n) g) 0 g

  reach_settles : (n : ℕ) → (reach_rounds start g n ≡ reach_rounds start g (suc n)) ⊎ (n ≤ count (reach_rounds start g n))
  reach_settles zero = inr (omega arith)
  reach_settles (suc n) =
      ⊎_elim
      (λ e. inl (ap (reach_round start g) e))
      (λ h. ⊎_elim (λ e. inl (ap (reach_round start g) e.0)) (λ l. inr (omega arith)) (grows (reach_below n)))
      (reach_settles n)

  settled : reach_rounds start g (length g) ≡ reach_rounds start g (suc (length g))
  settled =
      ⊎_elim
      (λ e. e)
      (λ h. ⊎_elim
      (λ e. e.0)
      (λ l. absurd (let k = count_within (reach_rounds start g (suc (length g))) in let j = reach_length (suc (length g)) in omega arith))
      (grows (reach_below (length g))))
      (reach_settles (length g))

  refers_false : (i : ℕ) (p : Pattern) → refers i p ≡ true → refs_are (λ j. if j == i then false else true) p ≡ false
  refers_false i p h = go (refs_are (λ j. if j == i then false else true) p) refl h
    where
      go : (b : Bool) → refs_are (λ j. if j == i then false else true) p ≡ b → not b ≡ true → refs_are (λ j. if j == i then false else true) p ≡ false
      go true e f = absurd (true≢false (sym f))
      go false e f = e

  refers_true : (i : ℕ) (p : Pattern) → refs_are (λ j. if j == i then false else true) p ≡ false → refers i p ≡ true
  refers_true i p h = ap not h

  only_reached : (n i : ℕ) → is_marked (reach_rounds start g n) i ≡ true → Reaches start g i
  only_reached zero i h = absurd (let w = number_back (λ x. false) g i h in true≢false (sym w.passes))
  only_reached (suc n) i h =
      let w = number_back (λ x. refers x start || some_refers x (reach_rounds start g n) g) g i h in
      ⊎_elim
      (λ e. reaches_first (ref_stands i start (refers_false i start e)))
      (λ e. let s = some_out i (reach_rounds start g n) g e in reaches_more (only_reached n s.number s.marked) s.there (ref_stands i s.definition.content (refers_false i s.definition.content s.refers_to)))
      (or_true (refers i start) (some_refers i (reach_rounds start g n) g) w.passes)

  marked_now : (i : ℕ) (d : Definition) → slice_get g i ≡ Some d → (refers i start || some_refers i (reach_rounds start g (length g)) g) ≡ true → is_marked (reach_rounds start g (length g)) i ≡ true
  marked_now i d e h =
      ap (λ (m : List Bool). is_marked m i) settled ∙ at_number (λ x. refers x start || some_refers x (reach_rounds start g (length g)) g) g i d e ∙ h

-- ---- marks as numbers

equal_is : (a b : ℕ) → a ≡ b → (a == b) ≡ true
equal_is a b e = grind arith

mark_in : (k : ℕ) (m : List Bool) (j : ℕ) → is_marked m j ≡ true → is_kept (marked_numbers k m) (k + j) ≡ true
mark_in k [] j h = absurd (true≢false (sym h))
mark_in k (true ∷ m) zero h = true_or_left (k == k + 0) (is_kept (marked_numbers (suc k) m) (k + 0)) (equal_is k (k + 0) (omega arith))
mark_in k (false ∷ m) zero h = absurd (true≢false (sym h))
mark_in k (true ∷ m) (suc j) h =
    let s : suc k + j ≡ k + suc j = omega arith in
    true_or_right (k == k + suc j) (is_kept (marked_numbers (suc k) m) (k + suc j)) (subst (λ (x : ℕ). is_kept (marked_numbers (suc k) m) x ≡ true) s (mark_in (suc k) m j h))
mark_in k (false ∷ m) (suc j) h = let s : suc k + j ≡ k + suc j = omega arith in subst (λ (x : ℕ). is_kept (marked_numbers (suc k) m) x ≡ true) s (mark_in (suc k) m j h)

record MarkAt (k : ℕ) (m : List Bool) (i : ℕ) : Type 0 where
  place : ℕ
  is : i ≡ k + place
  marked : is_marked m place ≡ true

later_mark : {k : ℕ} {m : List Bool} {i : ℕ} (b : Bool) → MarkAt (suc k) m i → MarkAt k (b ∷ m) i
later_mark {k = k} {i = i} b w = let e : i ≡ suc k + w.place = w.is in record { place = suc w.place; is = omega arith; marked = w.marked }

mark_out : (k : ℕ) (m : List Bool) (i : ℕ) → is_kept (marked_numbers k m) i ≡ true → MarkAt k m i
mark_out k [] i h = cc
mark_out k (true ∷ m) i h =
    ⊎_elim
    (λ e. let s = eqb-true k i e in record { place = zero; is = omega arith; marked = refl })
    (λ e. later_mark true (mark_out (suc k) m i e))
    (or_true (k == i) (is_kept (marked_numbers (suc k) m) i) h)
mark_out k (false ∷ m) i h = later_mark false (mark_out (suc k) m i h)

is_false : (b : Bool) → (b ≡ true → ⊥) → b ≡ false
is_false true f = absurd (f refl)
is_false false f = refl

-- ---- each reference

false_left : (a b : Bool) → a ≡ false → (a && b) ≡ false
false_left a b h = rw h refl

false_right : (a b : Bool) → b ≡ false → (a && b) ≡ false
false_right true b h = h
false_right false b h = refl

refs_pass : (g : List Definition) (test : ℕ → Bool) (p : Pattern) → refs_there g p ≡ true → ((i : ℕ) (d : Definition) → slice_get g i ≡ Some d → refs_are (λ j. if j == i then false else true) p ≡ false → test i ≡ true) → refs_are test p ≡ true
refs_pass g test not_allowed h f = refl
refs_pass g test empty h f = refl
refs_pass g test any_text h f = refl
refs_pass g test (typed type es) h f = refl
refs_pass g test (literal type t) h f = refl
refs_pass g test (ref i) h f = go (slice_get g i) refl h
  where
    go : (o : Option Definition) → slice_get g i ≡ o → is_there o ≡ true → test i ≡ true
    go None e k = absurd (true≢false (sym k))
    go (Some d) e k = f i d e (rw (equal_is i i refl) refl)
refs_pass g test (listed p) h f = refs_pass g test p h f
refs_pass g test (attribute c p) h f = refs_pass g test p h f
refs_pass g test (one_or_more p) h f = refs_pass g test p h f
refs_pass g test (choice p q) h f =
    let e = and_true (refs_there g p) (refs_there g q) h in
    true_and _ _ (refs_pass g test p e.0 (λ i d k r. f i d k (false_left _ _ r))) (refs_pass g test q e.1 (λ i d k r. f i d k (false_right _ _ r)))
refs_pass g test (group p q) h f =
    let e = and_true (refs_there g p) (refs_there g q) h in
    true_and _ _ (refs_pass g test p e.0 (λ i d k r. f i d k (false_left _ _ r))) (refs_pass g test q e.1 (λ i d k r. f i d k (false_right _ _ r)))
refs_pass g test (interleave p q) h f =
    let e = and_true (refs_there g p) (refs_there g q) h in
    true_and _ _ (refs_pass g test p e.0 (λ i d k r. f i d k (false_left _ _ r))) (refs_pass g test q e.1 (λ i d k r. f i d k (false_right _ _ r)))

module _ (start : Pattern) (g : List Definition) where
  mark_of : (i : ℕ) → is_kept (reached_numbers start g) i ≡ true → is_marked (reach_rounds start g (length g)) i ≡ true
  mark_of i h =
      let w = mark_out 0 (reach_rounds start g (length g)) i h in
      let e : i ≡ 0 + w.place = w.is in
      let s : w.place ≡ i = omega arith in
      subst (λ (x : ℕ). is_marked (reach_rounds start g (length g)) x ≡ true) s w.marked

  kept_of : (i : ℕ) → is_marked (reach_rounds start g (length g)) i ≡ true → is_kept (reached_numbers start g) i ≡ true
  kept_of i h =
      let s : 0 + i ≡ i = omega arith in
      subst (λ (x : ℕ). is_kept (reached_numbers start g) x ≡ true) s (mark_in 0 (reach_rounds start g (length g)) i h)

  there_of : (i : ℕ) → is_kept (reached_numbers start g) i ≡ true → (d : Definition) × (slice_get g i ≡ Some d)
  there_of i h =
      let k : is_marked (reach_rounds start g (suc (length g))) i ≡ true = ap (λ (m : List Bool). is_marked m i) (sym (settled start g)) ∙ mark_of i h in
      let w = number_back (λ x. refers x start || some_refers x (reach_rounds start g (length g)) g) g i k in
      (w.definition, w.there)

pub reached_are_kept : ReachedAreKept
reached_are_kept start g s c = record {
  there = there_of start g;
  start_in = refs_pass g (is_kept (reached_numbers start g)) start s
      (λ i d e r. kept_of start g i (marked_now start g i d e (true_or_left (refers i start) _ (refers_true start g i start r))));
  content_in = λ j b k e. refs_pass g (is_kept (reached_numbers start g)) b.content (c j b e)
      (λ i d h r. kept_of start g i (marked_now start g i d h (true_or_right (refers i start) _ (some_in i (reach_rounds start g (length g)) g j b e (mark_of start g j k) (refers_true start g i b.content r)))));
  reached = λ i k. only_reached start g (length g) i (mark_of start g i k);
}
