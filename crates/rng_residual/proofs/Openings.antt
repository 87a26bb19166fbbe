-- What an element's name opens takes exactly what begins with an element of that name.
use Rattle.std.proofs.Common.{◌≡◌, ℕ, List, [], ◌∷◌, map, Bool, true, false, ◌==◌, refl, inl, inr, ◌⊎◌, ⊎_elim, Option, Some, None, arith}
use Rattle.std.specs.Prelude.{slice_get, if◌then◌else◌}
use Rattle.nx_base.specs.declared.name.Name.{Name}
use Rattle.nx_base.specs.Trees.{Attribute, Children, nil, element}
use Rattle.rng_core.specs.Names.{has_name}
use Rattle.rng_core.specs.Patterns.{Pattern, Definition, not_allowed, empty, any_text, typed, literal, listed, attribute, ref, one_or_more, choice, group, interleave}
use Rattle.rng_core.specs.Matching.{no_attribute, InOrder, then_second, element_of_first, Shuffle, element_to_first, element_to_second, Matches, by_empty, by_text, by_first, by_second, by_group, by_interleave, by_one, by_more, by_element}
use Rattle.rng_kept.specs.Nullable.{nullable}
use Rattle.rng_kept.specs.SmallPatterns.{star}
use Rattle.rng_kept.specs.Openings.{Opening, opening, added, joined, then_group, then_interleave, under_interleave, open_definition, opens}
use Rattle.rng_residual.specs.Openings.{Opened, opened_first, opened_later, OpensExactly}
use Rattle.rng_residual.proofs.SmallPatterns.{or_same, seq_same, mix_same, by_test, nothing_inv, order_all, or_sides}
use Rattle.rng_residual.proofs.Nullable.{nullable_in, nullable_out, star_in, star_none, star_out, group_parts, interleave_parts, go_on}
use Rattle.std.proofs.lemmas.Bool.Decides.{nat_tests}

pub num_same : (i j : ℕ) → (i == j) ≡ true → i ≡ j
num_same i j h = grind (arith, nat_tests)

abbrev AddedAs : List Definition → Name → List Attribute → Children → ℕ → Pattern → List Opening → List Opening → Children → Type 0
AddedAs g n a k i q os xs r = (Opened g n a k xs r → Opened g n a k (opening i q ∷ os) r) × (Opened g n a k (opening i q ∷ os) r → Opened g n a k xs r)

pub record InFront (g : List Definition) (n : Name) (a : List Attribute) (k : Children) (os : List Opening) (q : Pattern) (r : Children) : Type 0 where
  pub r1 : Children
  pub r2 : Children
  pub order : InOrder r r1 r2
  pub left : Opened g n a k os r1
  pub right : Matches g q [] r2

pub record OnFirst (g : List Definition) (n : Name) (a : List Attribute) (k : Children) (os : List Opening) (q : Pattern) (r : Children) : Type 0 where
  pub r1 : Children
  pub r2 : Children
  pub shuffle : Shuffle r r1 r2
  pub here : Opened g n a k os r1
  pub other : Matches g q [] r2

pub record OnSecond (g : List Definition) (n : Name) (a : List Attribute) (k : Children) (os : List Opening) (q : Pattern) (r : Children) : Type 0 where
  pub r1 : Children
  pub r2 : Children
  pub shuffle : Shuffle r r1 r2
  pub here : Opened g n a k os r2
  pub other : Matches g q [] r1

module _ {g : List Definition} {n : Name} {a : List Attribute} {k : Children} where
  -- what stands there by an opening, or by later ones
  parts : {o : Opening} {os : List Opening} {r : Children} → Opened g n a k (o ∷ os) r → (Matches g (ref o.number) [] (element n a k nil) × Matches g o.rest [] r) ⊎ Opened g n a k os r
  parts (opened_first e m) = inl (e, m)
  parts (opened_later h) = inr h

  swap : {o x : Opening} {os : List Opening} {r : Children} → Opened g n a k (o ∷ x ∷ os) r → Opened g n a k (x ∷ o ∷ os) r
  swap h = ⊎_elim (λ w. opened_later (opened_first w.0 w.1)) (λ h. ⊎_elim (λ w. opened_first w.0 w.1) (λ h. opened_later (opened_later h)) (parts h)) (parts h)

  added_as : (i : ℕ) (q : Pattern) (os : List Opening) (r : Children) → AddedAs g n a k i q os (added i q os) r
  added_as i q [] r = (λ h. h, λ h. h)
  added_as i q (o ∷ os) r =
      by_test (λ xs. AddedAs g n a k i q (o ∷ os) xs r) (i == o.number) _ _
      (λ e.
      let same = num_same i o.number e in
      let both = or_same g o.rest q in (
        λ h. ⊎_elim (λ w. ⊎_elim (λ m. opened_later (opened_first w.0 m)) (λ m. opened_first (rw same w.0) m) (or_sides (both.to w.1))) (λ h. opened_later (opened_later h)) (parts h),
        λ h. ⊎_elim (λ w. opened_first (rw (← same) w.0) (both.from (by_second w.1))) (λ h. ⊎_elim (λ w. opened_first w.0 (both.from (by_first w.1))) (λ h. opened_later h) (parts h)) (parts h),
      ))
      (λ _.
      let more = added_as i q os r in (
        λ h. ⊎_elim (λ w. opened_later (opened_first w.0 w.1)) (λ h. swap (opened_later (more.0 h))) (parts h),
        λ h. ⊎_elim (λ w. opened_first w.0 w.1) (λ h. opened_later (more.1 h)) (parts (swap h)),
      ))

  pub joined_in : (os ps : List Opening) {r : Children} → Opened g n a k os r ⊎ Opened g n a k ps r → Opened g n a k (joined os ps) r
  joined_in os [] (inl h) = h
  joined_in os [] (inr h) = elim h [ ]
  joined_in os (p ∷ ps) {r = r} (inl h) = joined_in (added p.number p.rest os) ps (inl ((added_as p.number p.rest os r).1 (opened_later h)))
  joined_in os (p ∷ ps) {r = r} (inr h) =
      ⊎_elim
      (λ w. joined_in (added p.number p.rest os) ps (inl ((added_as p.number p.rest os r).1 (opened_first w.0 w.1))))
      (λ h. joined_in (added p.number p.rest os) ps (inr h))
      (parts h)

  pub joined_out : (os ps : List Opening) {r : Children} → Opened g n a k (joined os ps) r → Opened g n a k os r ⊎ Opened g n a k ps r
  joined_out os [] h = inl h
  joined_out os (p ∷ ps) {r = r} h =
      ⊎_elim
      (λ h. ⊎_elim (λ w. inr (opened_first w.0 w.1)) (λ h. inl h) (parts ((added_as p.number p.rest os r).0 h)))
      (λ h. inr (opened_later h))
      (joined_out (added p.number p.rest os) ps h)

  pub group_in : (q : Pattern) (os : List Opening) {r r1 r2 : Children} → Opened g n a k os r1 → InOrder r r1 r2 → Matches g q [] r2 → Opened g n a k (map (then_group q) os) r
  group_in q [] h s m = elim h [ ]
  group_in q (o ∷ os) h s m = ⊎_elim (λ w. opened_first w.0 ((seq_same g o.rest q).from (by_group no_attribute s w.1 m))) (λ h. opened_later (group_in q os h s m)) (parts h)

  pub left_in : (q : Pattern) (os : List Opening) {r r1 r2 : Children} → Opened g n a k os r1 → Shuffle r r1 r2 → Matches g q [] r2 → Opened g n a k (map (then_interleave q) os) r
  left_in q [] h s m = elim h [ ]
  left_in q (o ∷ os) h s m = ⊎_elim (λ w. opened_first w.0 ((mix_same g o.rest q).from (by_interleave no_attribute s w.1 m))) (λ h. opened_later (left_in q os h s m)) (parts h)

  pub right_in : (q : Pattern) (os : List Opening) {r r1 r2 : Children} → Opened g n a k os r2 → Shuffle r r1 r2 → Matches g q [] r1 → Opened g n a k (map (under_interleave q) os) r
  right_in q [] h s m = elim h [ ]
  right_in q (o ∷ os) h s m = ⊎_elim (λ w. opened_first w.0 ((mix_same g q o.rest).from (by_interleave no_attribute s m w.1))) (λ h. opened_later (right_in q os h s m)) (parts h)

  pub group_out : (q : Pattern) (os : List Opening) {r : Children} → Opened g n a k (map (then_group q) os) r → InFront g n a k os q r
  group_out q [] h = elim h [ ]
  group_out q (o ∷ os) h =
      ⊎_elim
      (λ w. let v = group_parts ((seq_same g o.rest q).to w.1) in record { r1 = v.c1; r2 = v.c2; order = v.order; left = opened_first w.0 v.left; right = v.right })
      (λ h. let v = group_out q os h in record { r1 = v.r1; r2 = v.r2; order = v.order; left = opened_later v.left; right = v.right })
      (parts h)

  pub left_out : (q : Pattern) (os : List Opening) {r : Children} → Opened g n a k (map (then_interleave q) os) r → OnFirst g n a k os q r
  left_out q [] h = elim h [ ]
  left_out q (o ∷ os) h =
      ⊎_elim
      (λ w. let v = interleave_parts ((mix_same g o.rest q).to w.1) in record { r1 = v.c1; r2 = v.c2; shuffle = v.shuffle; here = opened_first w.0 v.left; other = v.right })
      (λ h. let v = left_out q os h in record { r1 = v.r1; r2 = v.r2; shuffle = v.shuffle; here = opened_later v.here; other = v.other })
      (parts h)

  pub right_out : (q : Pattern) (os : List Opening) {r : Children} → Opened g n a k (map (under_interleave q) os) r → OnSecond g n a k os q r
  right_out q [] h = elim h [ ]
  right_out q (o ∷ os) h =
      ⊎_elim
      (λ w. let v = interleave_parts ((mix_same g q o.rest).to w.1) in record { r1 = v.c1; r2 = v.c2; shuffle = v.shuffle; here = opened_first w.0 v.right; other = v.left })
      (λ h. let v = right_out q os h in record { r1 = v.r1; r2 = v.r2; shuffle = v.shuffle; here = opened_later v.here; other = v.other })
      (parts h)

  on_null : (p : Pattern) {os : List Opening} {r : Children} → Matches g p [] nil → Opened g n a k os r → Opened g n a k (if nullable p then os else []) r
  on_null p m h = rw (nullable_in m) h

  when_true : {os : List Opening} {r : Children} (b : Bool) → Opened g n a k (if b then os else []) r → (b ≡ true) × Opened g n a k os r
  when_true true h = (refl, h)
  when_true false h = elim h [ ]

  pub open_in : {d : Definition} (i : ℕ) → slice_get g i ≡ Some d → has_name d.class n ≡ true → Matches g (ref i) [] (element n a k nil) → Opened g n a k (open_definition (slice_get g i) n i) nil
  open_in i e h m = rw e (rw h (opened_first m by_empty))

  pub opens_in : {p : Pattern} {r : Children} → Matches g p [] (element n a k r) → Opened g n a k (opens g n p) r
  opens_in (by_text x) = elim x [ ]
  opens_in (by_first {p = p} {q = q} m) = joined_in (opens g n p) (opens g n q) (inl (opens_in m))
  opens_in (by_second {p = p} {q = q} m) = joined_in (opens g n p) (opens g n q) (inr (opens_in m))
  opens_in (by_group {p = p} {q = q} no_attribute then_second m1 m2) =
      joined_in (map (then_group q) (opens g n p)) (if nullable p then opens g n q else []) (inr (on_null p m1 (opens_in m2)))
  opens_in (by_group {p = p} {q = q} no_attribute (element_of_first s) m1 m2) =
      joined_in (map (then_group q) (opens g n p)) (if nullable p then opens g n q else []) (inl (group_in q _ (opens_in m1) s m2))
  opens_in (by_interleave {p = p} {q = q} no_attribute (element_to_first s) m1 m2) =
      joined_in (map (then_interleave q) (opens g n p)) (map (under_interleave p) (opens g n q)) (inl (left_in q _ (opens_in m1) s m2))
  opens_in (by_interleave {p = p} {q = q} no_attribute (element_to_second s) m1 m2) =
      joined_in (map (then_interleave q) (opens g n p)) (map (under_interleave p) (opens g n q)) (inr (right_in p _ (opens_in m2) s m1))
  opens_in (by_one {p = p} m) = group_in (star p) _ (opens_in m) (order_all _) (star_none p)
  opens_in (by_more no_attribute then_second m1 m2) = opens_in m2
  opens_in (by_more {p = p} no_attribute (element_of_first s) m1 m2) = group_in (star p) _ (opens_in m1) s (star_in m2)
  opens_in (by_element {i = i} e h w m) = open_in i e h (by_element e h w m)

  pub open_out : (i : ℕ) (o : Option Definition) {r : Children} → Opened g n a k (open_definition o n i) r → Matches g (ref i) [] (element n a k r)
  open_out i None h = elim h [ ]
  open_out i (Some d) h =
      let w = when_true (has_name d.class n) h in
      ⊎_elim (λ v. rw ((nothing_inv v.1).1) v.0) (λ h. elim h [ ]) (parts w.1)

  pub opens_out : (p : Pattern) {r : Children} → Opened g n a k (opens g n p) r → Matches g p [] (element n a k r)
  opens_out (ref i) h = open_out i (slice_get g i) h
  opens_out (one_or_more p) h =
      let w = group_out (star p) (opens g n p) h in go_on (element_of_first w.order) (opens_out p w.left) (star_out w.right)
  opens_out (choice p q) h =
      ⊎_elim (λ x. by_first (opens_out p x)) (λ x. by_second (opens_out q x)) (joined_out (opens g n p) (opens g n q) h)
  opens_out (group p q) h =
      ⊎_elim
      (λ x. let w = group_out q (opens g n p) x in by_group no_attribute (element_of_first w.order) (opens_out p w.left) w.right)
      (λ x. let w = when_true (nullable p) x in by_group no_attribute then_second (nullable_out p w.0) (opens_out q w.1))
      (joined_out (map (then_group q) (opens g n p)) _ h)
  opens_out (interleave p q) h =
      ⊎_elim
      (λ x. let w = left_out q (opens g n p) x in by_interleave no_attribute (element_to_first w.shuffle) (opens_out p w.here) w.other)
      (λ x. let w = right_out p (opens g n q) x in by_interleave no_attribute (element_to_second w.shuffle) w.other (opens_out q w.here))
      (joined_out (map (then_interleave q) (opens g n p)) _ h)
  opens_out not_allowed h = elim h [ ]
  opens_out empty h = elim h [ ]
  opens_out any_text h = elim h [ ]
  opens_out (typed t e) h = elim h [ ]
  opens_out (literal t v) h = elim h [ ]
  opens_out (listed p) h = elim h [ ]
  opens_out (attribute c p) h = elim h [ ]

pub opens_exactly : OpensExactly
opens_exactly g n a k r p = (λ m. opens_in m, λ h. opens_out p h)
