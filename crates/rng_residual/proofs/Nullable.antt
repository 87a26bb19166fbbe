-- What matches nothing at all, and what may be repeated.
use Rattle.std.proofs.Common.{◌≡◌, List, [], Bool, true, false, ◌&&◌, ◌||◌, refl, sym, ap, ◌∙◌, subst, inl, inr, ◌⊎◌, ⊎_elim}
use Rattle.nx_base.specs.Trees.{Attribute, Children, nil}
use Rattle.rng_core.specs.Patterns.{Pattern, Definition, not_allowed, empty, any_text, typed, literal, listed, attribute, ref, one_or_more, choice, group, interleave}
use Rattle.rng_core.specs.Matching.{Split, no_attribute, InOrder, then_second, Shuffle, no_child, no_string, Matches, by_empty, by_text, by_first, by_second, by_group, by_interleave, by_one, by_more}
use Rattle.rng_kept.specs.Nullable.{nullable}
use Rattle.rng_kept.specs.SmallPatterns.{is_empty, is_repeated, is_star, star}
use Rattle.rng_residual.proofs.SmallPatterns.{along, by_test, or_same, or_true, and_true, or_sides, is_empty-is, nothing_inv, order_all_is, order_none_is, split_all_is, split_none_is}
use Rattle.rng_residual.proofs.Splits.{split_back, order_back}

pub true_and : (a b : Bool) → a ≡ true → b ≡ true → (a && b) ≡ true
true_and a b h k = rw (h, k) refl

pub true_or_left : (a b : Bool) → a ≡ true → (a || b) ≡ true
true_or_left a b h = rw h refl

pub true_or_right : (a b : Bool) → b ≡ true → (a || b) ≡ true
true_or_right true b h = refl
true_or_right false b h = h

pub nullable_in : {g : List Definition} {p : Pattern} → Matches g p [] nil → nullable p ≡ true
nullable_in by_empty = refl
nullable_in (by_text s) = refl
nullable_in (by_first {p = p} {q = q} m) = true_or_left (nullable p) (nullable q) (nullable_in m)
nullable_in (by_second {p = p} {q = q} m) = true_or_right (nullable p) (nullable q) (nullable_in m)
nullable_in (by_group {p = p} {q = q} no_attribute then_second m1 m2) = true_and (nullable p) (nullable q) (nullable_in m1) (nullable_in m2)
nullable_in (by_interleave {p = p} {q = q} no_attribute no_child m1 m2) = true_and (nullable p) (nullable q) (nullable_in m1) (nullable_in m2)
nullable_in (by_one m) = nullable_in m
nullable_in (by_more no_attribute then_second m1 m2) = nullable_in m1

pub nullable_out : {g : List Definition} (p : Pattern) → nullable p ≡ true → Matches g p [] nil
nullable_out empty h = by_empty
nullable_out any_text h = by_text no_string
nullable_out (one_or_more p) h = by_one (nullable_out p h)
nullable_out (choice p q) h = ⊎_elim (λ e. by_first (nullable_out p e)) (λ e. by_second (nullable_out q e)) (or_true (nullable p) (nullable q) h)
nullable_out (group p q) h = let e = and_true (nullable p) (nullable q) h in by_group no_attribute then_second (nullable_out p e.0) (nullable_out q e.1)
nullable_out (interleave p q) h = let e = and_true (nullable p) (nullable q) h in by_interleave no_attribute no_child (nullable_out p e.0) (nullable_out q e.1)
nullable_out not_allowed h = cc
nullable_out (typed t e) h = cc
nullable_out (literal t v) h = cc
nullable_out (listed p) h = cc
nullable_out (attribute c p) h = cc
nullable_out (ref i) h = cc

-- one repetition after another
pub more : {g : List Definition} {p : Pattern} {a a1 a2 : List Attribute} {c c1 c2 : Children} → Matches g (one_or_more p) a1 c1 → Split a a1 a2 → InOrder c c1 c2 → Matches g (one_or_more p) a2 c2 → Matches g (one_or_more p) a c
more (by_one m) s o n = by_more s o m n
more (by_more s1 o1 m1 m2) s o n =
    let w = split_back s s1 in
    let v = order_back o o1 in
    by_more w.outer v.outer m1 (more m2 w.inner v.inner n)

-- ---- as many as one likes, or none

repeated_form : (p : Pattern) → is_repeated p ≡ true → (q : Pattern) × (p ≡ one_or_more q)
repeated_form not_allowed h = cc
repeated_form empty h = cc
repeated_form any_text h = cc
repeated_form (typed t e) h = cc
repeated_form (literal t v) h = cc
repeated_form (listed p) h = cc
repeated_form (attribute n p) h = cc
repeated_form (ref i) h = cc
repeated_form (one_or_more p) h = (p, refl)
repeated_form (choice p q) h = cc
repeated_form (group p q) h = cc
repeated_form (interleave p q) h = cc

-- as many as one likes, or none, in either order
pub data StarForm : Pattern → Type 0 where
  parts_or_none : (q : Pattern) → StarForm (choice (one_or_more q) empty)
  none_or_parts : (q : Pattern) → StarForm (choice empty (one_or_more q))

pub star_form : (p : Pattern) → is_star p ≡ true → StarForm p
star_form not_allowed h = cc
star_form empty h = cc
star_form any_text h = cc
star_form (typed t e) h = cc
star_form (literal t v) h = cc
star_form (listed p) h = cc
star_form (attribute n p) h = cc
star_form (ref i) h = cc
star_form (one_or_more p) h = cc
star_form (choice p q) h = ⊎_elim
    (λ first.
    let e = and_true (is_repeated p) (is_empty q) first in
    let r = repeated_form p e.0 in
    subst StarForm (sym (ap (λ x. choice x q) r.1 ∙ ap (λ y. choice (one_or_more r.0) y) (is_empty-is q e.1))) (parts_or_none r.0))
    (λ second.
    let e = and_true (is_empty p) (is_repeated q) second in
    let r = repeated_form q e.1 in
    subst StarForm (sym (ap (λ x. choice x q) (is_empty-is p e.0) ∙ ap (λ y. choice empty y) r.1)) (none_or_parts r.0))
    (or_true (is_repeated p && is_empty q) (is_empty p && is_repeated q) h)
star_form (group p q) h = cc
star_form (interleave p q) h = cc

-- such repetitions one after another are one
module _ {g : List Definition} {p : Pattern} where
  joined : {a a1 a2 : List Attribute} {c c1 c2 : Children} → Split a a1 a2 → InOrder c c1 c2 → Matches g (choice (one_or_more p) empty) a1 c1 →
      Matches g (choice (one_or_more p) empty) a2 c2 → Matches g (choice (one_or_more p) empty) a c
  joined s o (by_first m) (by_first n) = by_first (more m s o n)
  joined s o (by_first m) (by_second by_empty) = along _ _ _ _ _ (split_all_is s) (order_all_is o) (by_first m)
  joined s o (by_second by_empty) n = along _ _ _ _ _ (split_none_is s) (order_none_is o) n

  again : {a : List Attribute} {c : Children} → Matches g (one_or_more (choice (one_or_more p) empty)) a c → Matches g (choice (one_or_more p) empty) a c
  again (by_one m) = m
  again (by_more s o m n) = joined s o m (again n)

  turned : {a : List Attribute} {c : Children} → Matches g (choice empty (one_or_more p)) a c → Matches g (choice (one_or_more p) empty) a c
  turned (by_first m) = by_second m
  turned (by_second m) = by_first m

  all_turned : {a : List Attribute} {c : Children} → Matches g (one_or_more (choice empty (one_or_more p))) a c →
      Matches g (one_or_more (choice (one_or_more p) empty)) a c
  all_turned (by_one m) = by_one (turned m)
  all_turned (by_more s o m n) = by_more s o (turned m) (all_turned n)

  turned_back : {a : List Attribute} {c : Children} → Matches g (choice (one_or_more p) empty) a c → Matches g (choice empty (one_or_more p)) a c
  turned_back (by_first m) = by_second m
  turned_back (by_second m) = by_first m

again_in : {g : List Definition} {p : Pattern} {a : List Attribute} {c : Children} → StarForm p → Matches g (one_or_more p) a c → Matches g p a c
again_in (parts_or_none q) m = again m
again_in (none_or_parts q) m = turned_back (again (all_turned m))

none_in : {g : List Definition} {p : Pattern} → StarForm p → Matches g p [] nil
none_in (parts_or_none q) = by_second by_empty
none_in (none_or_parts q) = by_first by_empty

pub star_in : {g : List Definition} {p : Pattern} {a : List Attribute} {c : Children} → Matches g (one_or_more p) a c → Matches g (star p) a c
unfolding star
star_in {g = g} {p = p} {a = a} {c = c} m =
    by_test (λ r. Matches g r a c) (is_star p) _ _
    (λ h. again_in (star_form p h) m)
    (λ _. (or_same g (one_or_more p) empty).from (by_first m))

pub star_none : {g : List Definition} (p : Pattern) → Matches g (star p) [] nil
unfolding star
star_none {g = g} p =
    by_test (λ r. Matches g r [] nil) (is_star p) _ _
    (λ h. none_in (star_form p h))
    (λ _. (or_same g (one_or_more p) empty).from (by_second by_empty))

pub star_out : {g : List Definition} {p : Pattern} {a : List Attribute} {c : Children} → Matches g (star p) a c → Matches g (one_or_more p) a c ⊎ Matches g empty a c
unfolding star
star_out {g = g} {p = p} {a = a} {c = c} m =
    by_test (λ r. Matches g r a c → Matches g (one_or_more p) a c ⊎ Matches g empty a c) (is_star p) _ _
    (λ _ n. inl (by_one n)) (λ _ n. or_sides ((or_same g (one_or_more p) empty).to n)) m

pub record InGroup (g : List Definition) (p q : Pattern) (c : Children) : Type 0 where
  pub c1 : Children
  pub c2 : Children
  pub order : InOrder c c1 c2
  pub left : Matches g p [] c1
  pub right : Matches g q [] c2

pub group_parts : {g : List Definition} {p q : Pattern} {c : Children} → Matches g (group p q) [] c → InGroup g p q c
group_parts (by_group {c1 = c1} {c2 = c2} no_attribute o m1 m2) = record { c1 = c1; c2 = c2; order = o; left = m1; right = m2 }

pub record InInterleave (g : List Definition) (p q : Pattern) (c : Children) : Type 0 where
  pub c1 : Children
  pub c2 : Children
  pub shuffle : Shuffle c c1 c2
  pub left : Matches g p [] c1
  pub right : Matches g q [] c2

pub interleave_parts : {g : List Definition} {p q : Pattern} {c : Children} → Matches g (interleave p q) [] c → InInterleave g p q c
interleave_parts (by_interleave {c1 = c1} {c2 = c2} no_attribute o m1 m2) = record { c1 = c1; c2 = c2; shuffle = o; left = m1; right = m2 }

pub go_on : {g : List Definition} {p : Pattern} {c c1 c2 : Children} → InOrder c c1 c2 → Matches g p [] c1 → Matches g (one_or_more p) [] c2 ⊎ Matches g empty [] c2 → Matches g (one_or_more p) [] c
go_on {p = p} {c = c} {c1 = c1} o m (inl r) = by_more no_attribute o m r
go_on {p = p} {c = c} {c1 = c1} o m (inr e) = rw (order_all_is (subst (λ v. InOrder c c1 v) (nothing_inv e).1 o)) (by_one m)
