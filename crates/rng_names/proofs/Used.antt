-- Names that are used stay so, and are in no class that is taken.
use Rattle.std.proofs.Common.{◌≡◌, Bool, true, false, cond, List, [], ◌∷◌, ◌++◌, refl, sym, ◌∙◌, ap, subst, inl, inr}
use Rattle.std.specs.Prelude.{not, ◌&&◌, ◌||◌}
use Rattle.std.specs.List.{AllByRecursion}
use Rattle.std.proofs.lemmas.Bool.{and_parts, and_from, or_left, or_right, or_cases, cases_Bool, true≢false}
use Rattle.nx_base.specs.declared.name.Name.{Name}
use Rattle.rng_core.specs.Matching.{by_first, by_second}
use Rattle.rng_core.specs.Names.{Class, has_attribute_name}
use Rattle.rng_core.specs.Patterns.{Pattern, not_allowed, empty, any_text, typed, literal, listed, attribute, ref, one_or_more, choice, group, interleave}
use Rattle.rng_kept.specs.Apart.{mentions, is_attribute_free, is_loose, IsApart, apart_free, apart_attribute, apart_one_or_more, apart_choice, apart_group, apart_interleave}
use Rattle.rng_kept.specs.Attributes.{around, attribute_by}
use Rattle.rng_kept.specs.Nullable.{nullable}
use Rattle.rng_kept.specs.SmallPatterns.{is_not_allowed, is_empty, is_repeated, is_side, is_star, with_side, choice_of, group_of, interleave_of, star}
use Rattle.rng_residual.proofs.Nullable.{nullable_in, nullable_out}
use Rattle.rng_residual.proofs.SmallPatterns.{or_same}
use Rattle.rng_names.specs.Used.{is_leaf, used_in, used, IsParted, parted_more, parted_choice, parted_group, parted_interleave, parted_leaf, ApartIsParted, AttributesUseNames, taken_classes, PrefersNothing, UsedNamesAreNotTaken, EachTwo, ShareNoName, TakenNamesAreApart}

-- ---- one of two

pub either : {A : Type 0} (P : A → Type 0) (t : Bool) (x y : A) → P x → P y → P (cond t x y)
either P true x y h k = h
either P false x y h k = k

-- what holds of both sides holds of a choice that is put together, and so on
module _ (P : Pattern → Type 0) (none : P not_allowed) where
  module _ (both : (p q : Pattern) → P p → P q → P (choice p q)) where
    side_holds : (p q : Pattern) → P p → P q → P (with_side p q)
    side_holds p q h k = either P (is_not_allowed p) q _ k (either P (is_not_allowed q) p _ h (either P (is_side q p) p (choice p q) h (both p q h k)))

    pub choice_holds : (p q : Pattern) → P p → ((a b : Pattern) → P (choice a b) → P a × P b) → P q → P (choice_of p q)
    choice_holds p (choice a b) h parts k = let t = parts a b k in choice_holds (choice_of p a) b (choice_holds p a h parts t.0) parts t.1
    choice_holds p not_allowed h parts k = side_holds p not_allowed h k
    choice_holds p empty h parts k = side_holds p empty h k
    choice_holds p any_text h parts k = side_holds p any_text h k
    choice_holds p (typed t e) h parts k = side_holds p (typed t e) h k
    choice_holds p (literal t v) h parts k = side_holds p (literal t v) h k
    choice_holds p (listed q) h parts k = side_holds p (listed q) h k
    choice_holds p (attribute c q) h parts k = side_holds p (attribute c q) h k
    choice_holds p (ref i) h parts k = side_holds p (ref i) h k
    choice_holds p (one_or_more q) h parts k = side_holds p (one_or_more q) h k
    choice_holds p (group q r) h parts k = side_holds p (group q r) h k
    choice_holds p (interleave q r) h parts k = side_holds p (interleave q r) h k

  pub group_holds : (p q : Pattern) → P p → P q → P (group p q) → P (group_of p q)
  group_holds p q h k g = either P (is_not_allowed p || is_not_allowed q) not_allowed _ none (either P (is_empty p) q _ k (either P (is_empty q) p (group p q) h g))

  pub interleave_holds : (p q : Pattern) → P p → P q → P (interleave p q) → P (interleave_of p q)
  interleave_holds p q h k g = either P (is_not_allowed p || is_not_allowed q) not_allowed _ none (either P (is_empty p) q _ k (either P (is_empty q) p (interleave p q) h g))

-- ---- a name stays used where more may be left out

more_free : (free : Bool) (p : Pattern) (n : Name) → used_in free p n ≡ true → used_in true p n ≡ true
more_free true p n h = h
more_free false (attribute c p) n h = refl
more_free false (one_or_more p) n h = or_right (is_loose p) (used_in (nullable p) p n) h
more_free false (choice p q) n h = let t = and_parts (used_in false p n) (used_in false q n) h in and_from (used_in true p n) (used_in true q n) (more_free false p n t.0) (more_free false q n t.1)
more_free false (group p q) n h = h
more_free false (interleave p q) n h = h
more_free false not_allowed n h = refl
more_free false empty n h = refl
more_free false any_text n h = refl
more_free false (typed t e) n h = refl
more_free false (literal t v) n h = refl
more_free false (listed p) n h = refl
more_free false (ref i) n h = refl

lift : (one other : Bool) (p : Pattern) (n : Name) → (one ≡ true → other ≡ true) → used_in one p n ≡ true → used_in other p n ≡ true
lift true other p n k h = subst (λ b. used_in b p n ≡ true) (sym (k refl)) h
lift false true p n k h = more_free false p n h
lift false false p n k h = h

nullable_left : (p q : Pattern) → nullable p ≡ true → nullable (choice_of p q) ≡ true
nullable_left p q h = nullable_in {g = []} ((or_same [] p q).from (by_first (nullable_out p h)))

nullable_right : (p q : Pattern) → nullable q ≡ true → nullable (choice_of p q) ≡ true
nullable_right p q h = nullable_in {g = []} ((or_same [] p q).from (by_second (nullable_out q h)))

-- ---- what is put together

choice_used : (free : Bool) (p q : Pattern) (n : Name) → used_in free p n ≡ true → used_in free q n ≡ true → used_in free (choice_of p q) n ≡ true
choice_used free p q n h k =
    choice_holds (λ x. used_in free x n ≡ true) refl (λ a b u v. and_from (used_in free a n) (used_in free b n) u v) p q h (λ a b u. and_parts (used_in free a n) (used_in free b n) u) k

both_used : (p q : Pattern) (n : Name) → used p n ≡ true → used q n ≡ true → used (choice_of p q) n ≡ true
both_used p q n h k =
    let free = nullable (choice_of p q) in
    choice_used free p q n (lift (nullable p) free p n (nullable_left p q) h) (lift (nullable q) free q n (nullable_right p q) k)

group_used : (p q : Pattern) (n : Name) → used p n ≡ true → used q n ≡ true → used (group_of p q) n ≡ true
group_used p q n h k = group_holds (λ x. used x n ≡ true) refl p q h k (and_from (used p n) (used q n) h k)

interleave_used : (p q : Pattern) (n : Name) → used p n ≡ true → used q n ≡ true → used (interleave_of p q) n ≡ true
interleave_used p q n h k = interleave_holds (λ x. used x n ≡ true) refl p q h k (and_from (used p n) (used q n) h k)

repeated_used : (free : Bool) (p : Pattern) (n : Name) → free ≡ true → is_loose p ≡ true → used_in free (one_or_more p) n ≡ true
repeated_used free p n e l = subst (λ b. used_in b (one_or_more p) n ≡ true) (sym e) (or_left (is_loose p) (used_in (nullable p) p n) l)

-- a repetition of as many as one likes, or none
repeated_side : (p : Pattern) (n : Name) → is_repeated p ≡ true → is_loose p ≡ true → used_in true p n ≡ true
repeated_side (one_or_more p) n h l = repeated_used true p n refl l
repeated_side not_allowed n h l = absurd (true≢false (sym h))
repeated_side empty n h l = absurd (true≢false (sym h))
repeated_side any_text n h l = absurd (true≢false (sym h))
repeated_side (typed t e) n h l = absurd (true≢false (sym h))
repeated_side (literal t v) n h l = absurd (true≢false (sym h))
repeated_side (listed p) n h l = absurd (true≢false (sym h))
repeated_side (attribute c p) n h l = absurd (true≢false (sym h))
repeated_side (ref i) n h l = absurd (true≢false (sym h))
repeated_side (choice p q) n h l = absurd (true≢false (sym h))
repeated_side (group p q) n h l = absurd (true≢false (sym h))
repeated_side (interleave p q) n h l = absurd (true≢false (sym h))

empty_is : (p : Pattern) → is_empty p ≡ true → p ≡ empty
empty_is empty h = refl
empty_is not_allowed h = absurd (true≢false (sym h))
empty_is any_text h = absurd (true≢false (sym h))
empty_is (typed t e) h = absurd (true≢false (sym h))
empty_is (literal t v) h = absurd (true≢false (sym h))
empty_is (listed p) h = absurd (true≢false (sym h))
empty_is (attribute c p) h = absurd (true≢false (sym h))
empty_is (ref i) h = absurd (true≢false (sym h))
empty_is (one_or_more p) h = absurd (true≢false (sym h))
empty_is (choice p q) h = absurd (true≢false (sym h))
empty_is (group p q) h = absurd (true≢false (sym h))
empty_is (interleave p q) h = absurd (true≢false (sym h))

sides_used : (p q : Pattern) (n : Name) → is_star (choice p q) ≡ true → is_loose p ≡ true → is_loose q ≡ true → used (choice p q) n ≡ true
sides_used p q n h l m =
    elim (or_cases (is_repeated p && is_empty q) (is_empty p && is_repeated q) h) [
      | inl x ↦ (let t = and_parts (is_repeated p) (is_empty q) x in
          subst (λ (r : Pattern). used (choice p r) n ≡ true) (sym (empty_is q t.1))
          (let free : nullable (choice p empty) ≡ true = or_right (nullable p) true refl in
          subst (λ (b : Bool). used_in b (choice p empty) n ≡ true) (sym free) (and_from (used_in true p n) true (repeated_side p n t.0 l) refl)))
      | inr x ↦ (let t = and_parts (is_empty p) (is_repeated q) x in
          subst (λ (r : Pattern). used (choice r q) n ≡ true) (sym (empty_is p t.0)) (repeated_side q n t.1 m))
    ]

star_of_used : (p : Pattern) (n : Name) → is_star p ≡ true → is_loose p ≡ true → used p n ≡ true
star_of_used (choice p q) n h l = let t = and_parts (is_loose p) (is_loose q) l in sides_used p q n h t.0 t.1
star_of_used not_allowed n h l = absurd (true≢false (sym h))
star_of_used empty n h l = absurd (true≢false (sym h))
star_of_used any_text n h l = absurd (true≢false (sym h))
star_of_used (typed t e) n h l = absurd (true≢false (sym h))
star_of_used (literal t v) n h l = absurd (true≢false (sym h))
star_of_used (listed p) n h l = absurd (true≢false (sym h))
star_of_used (attribute c p) n h l = absurd (true≢false (sym h))
star_of_used (ref i) n h l = absurd (true≢false (sym h))
star_of_used (one_or_more p) n h l = absurd (true≢false (sym h))
star_of_used (group p q) n h l = absurd (true≢false (sym h))
star_of_used (interleave p q) n h l = absurd (true≢false (sym h))

star_used : (p : Pattern) (n : Name) → is_loose p ≡ true → used (star p) n ≡ true
unfolding star
star_used p n l = elim (cases_Bool (is_star p)) [
  | inl h ↦ subst (λ (b : Bool). used (cond b p (choice_of (one_or_more p) empty)) n ≡ true) (sym h) (star_of_used p n h l)
  | inr h ↦ subst (λ (b : Bool). used (cond b p (choice_of (one_or_more p) empty)) n ≡ true) (sym h)
      (let free = nullable (choice_of (one_or_more p) empty) in
      choice_used free (one_or_more p) empty n (repeated_used free p n (nullable_right (one_or_more p) empty refl) l) refl)
]

around_used : (rest p : Pattern) (n : Name) → is_loose p ≡ true → used rest n ≡ true → used (around rest p) n ≡ true
around_used rest p n l h =
    let s = star_used p n l in
    either (λ x. used x n ≡ true) (is_empty rest) (star p) (group_of (star p) (group_of rest (star p))) s (group_used (star p) (group_of rest (star p)) n s (group_used rest (star p) n h s))

-- ---- patterns without attributes

free_used : (free : Bool) (p : Pattern) (n : Name) → is_attribute_free p ≡ true → used_in free p n ≡ true
free_used free (attribute c p) n h = absurd (true≢false (sym h))
free_used free (one_or_more p) n h = or_right (free && is_loose p) (used_in (nullable p) p n) (free_used (nullable p) p n h)
free_used free (choice p q) n h = let t = and_parts (is_attribute_free p) (is_attribute_free q) h in and_from (used_in free p n) (used_in free q n) (free_used free p n t.0) (free_used free q n t.1)
free_used free (group p q) n h = let t = and_parts (is_attribute_free p) (is_attribute_free q) h in and_from (used p n) (used q n) (free_used (nullable p) p n t.0) (free_used (nullable q) q n t.1)
free_used free (interleave p q) n h = let t = and_parts (is_attribute_free p) (is_attribute_free q) h in and_from (used p n) (used q n) (free_used (nullable p) p n t.0) (free_used (nullable q) q n t.1)
free_used free not_allowed n h = refl
free_used free empty n h = refl
free_used free any_text n h = refl
free_used free (typed t e) n h = refl
free_used free (literal t v) n h = refl
free_used free (listed p) n h = refl
free_used free (ref i) n h = refl

free_loose : (p : Pattern) → is_attribute_free p ≡ true → is_loose p ≡ true
free_loose (attribute c p) h = refl
free_loose (one_or_more p) h = free_loose p h
free_loose (choice p q) h = let t = and_parts (is_attribute_free p) (is_attribute_free q) h in and_from (is_loose p) (is_loose q) (free_loose p t.0) (free_loose q t.1)
free_loose (group p q) h = h
free_loose (interleave p q) h = h
free_loose not_allowed h = refl
free_loose empty h = refl
free_loose any_text h = refl
free_loose (typed t e) h = refl
free_loose (literal t v) h = refl
free_loose (listed p) h = refl
free_loose (ref i) h = refl

neither : (a b : Bool) → (a || b) ≡ false → (a ≡ false) × (b ≡ false)
neither true b e = absurd (true≢false e)
neither false b e = (refl, e)

-- a name that isn't mentioned is used
unmentioned_used : (free : Bool) (p : Pattern) (n : Name) → mentions p n ≡ false → used_in free p n ≡ true
unmentioned_used free (attribute c p) n h = or_right free (not (has_attribute_name c n)) (ap not h)
unmentioned_used free (one_or_more p) n h = or_right (free && is_loose p) (used_in (nullable p) p n) (unmentioned_used (nullable p) p n h)
unmentioned_used free (choice p q) n h = let t = neither (mentions p n) (mentions q n) h in and_from (used_in free p n) (used_in free q n) (unmentioned_used free p n t.0) (unmentioned_used free q n t.1)
unmentioned_used free (group p q) n h = let t = neither (mentions p n) (mentions q n) h in and_from (used p n) (used q n) (unmentioned_used (nullable p) p n t.0) (unmentioned_used (nullable q) q n t.1)
unmentioned_used free (interleave p q) n h = let t = neither (mentions p n) (mentions q n) h in and_from (used p n) (used q n) (unmentioned_used (nullable p) p n t.0) (unmentioned_used (nullable q) q n t.1)
unmentioned_used free not_allowed n h = refl
unmentioned_used free empty n h = refl
unmentioned_used free any_text n h = refl
unmentioned_used free (typed t e) n h = refl
unmentioned_used free (literal t v) n h = refl
unmentioned_used free (listed p) n h = refl
unmentioned_used free (ref i) n h = refl

-- ---- behind an attribute

module _ (fits : Pattern → Bool) (m : Name) where
  -- where no attribute stands below a group, each name is used
  loose_used : (p : Pattern) (n : Name) → is_loose p ≡ true → used (attribute_by fits m p) n ≡ true
  loose_used (attribute c p) n l = either (λ x. used x n ≡ true) (has_attribute_name c m && fits p) empty not_allowed refl refl
  loose_used (one_or_more p) n l = around_used (attribute_by fits m p) p n l (loose_used p n l)
  loose_used (choice p q) n l = let t = and_parts (is_loose p) (is_loose q) l in both_used (attribute_by fits m p) (attribute_by fits m q) n (loose_used p n t.0) (loose_used q n t.1)
  loose_used (group p q) n l =
      let t = and_parts (is_attribute_free p) (is_attribute_free q) l in
      both_used (group_of (attribute_by fits m p) q) (group_of p (attribute_by fits m q)) n
      (group_used (attribute_by fits m p) q n (loose_used p n (free_loose p t.0)) (free_used (nullable q) q n t.1))
      (group_used p (attribute_by fits m q) n (free_used (nullable p) p n t.0) (loose_used q n (free_loose q t.1)))
  loose_used (interleave p q) n l =
      let t = and_parts (is_attribute_free p) (is_attribute_free q) l in
      both_used (interleave_of (attribute_by fits m p) q) (interleave_of p (attribute_by fits m q)) n
      (interleave_used (attribute_by fits m p) q n (loose_used p n (free_loose p t.0)) (free_used (nullable q) q n t.1))
      (interleave_used p (attribute_by fits m q) n (free_used (nullable p) p n t.0) (loose_used q n (free_loose q t.1)))
  loose_used not_allowed n l = refl
  loose_used empty n l = refl
  loose_used any_text n l = refl
  loose_used (typed t e) n l = refl
  loose_used (literal t v) n l = refl
  loose_used (listed p) n l = refl
  loose_used (ref i) n l = refl

  leaf_used : (p : Pattern) (n : Name) → is_leaf p ≡ true → used (attribute_by fits m p) n ≡ true
  leaf_used (attribute c p) n l = either (λ x. used x n ≡ true) (has_attribute_name c m && fits p) empty not_allowed refl refl
  leaf_used (one_or_more p) n l = absurd (true≢false (sym l))
  leaf_used (choice p q) n l = absurd (true≢false (sym l))
  leaf_used (group p q) n l = absurd (true≢false (sym l))
  leaf_used (interleave p q) n l = absurd (true≢false (sym l))
  leaf_used not_allowed n l = refl
  leaf_used empty n l = refl
  leaf_used any_text n l = refl
  leaf_used (typed t e) n l = refl
  leaf_used (literal t v) n l = refl
  leaf_used (listed p) n l = refl
  leaf_used (ref i) n l = refl

  -- what was used is so
  still : {p : Pattern} → IsParted p → (free : Bool) (n : Name) → used_in free p n ≡ true → used (attribute_by fits m p) n ≡ true
  still (parted_more {p} l more) free n h = around_used (attribute_by fits m p) p n l (loose_used p n l)
  still (parted_choice {p} {q} a b) free n h =
      let t = and_parts (used_in free p n) (used_in free q n) h in
      both_used (attribute_by fits m p) (attribute_by fits m q) n (still a free n t.0) (still b free n t.1)
  still (parted_group {p} {q} a b f g) free n h =
      let t = and_parts (used p n) (used q n) h in
      both_used (group_of (attribute_by fits m p) q) (group_of p (attribute_by fits m q)) n
      (group_used (attribute_by fits m p) q n (still a (nullable p) n t.0) t.1) (group_used p (attribute_by fits m q) n t.0 (still b (nullable q) n t.1))
  still (parted_interleave {p} {q} a b f g) free n h =
      let t = and_parts (used p n) (used q n) h in
      both_used (interleave_of (attribute_by fits m p) q) (interleave_of p (attribute_by fits m q)) n
      (interleave_used (attribute_by fits m p) q n (still a (nullable p) n t.0) t.1) (interleave_used p (attribute_by fits m q) n t.0 (still b (nullable q) n t.1))
  still (parted_leaf {p} l) free n h = leaf_used p n l

  -- nothing is left where the name isn't mentioned
  nothing_group : (p : Pattern) → group_of p not_allowed ≡ not_allowed
  nothing_group p = by_test (is_not_allowed p)
    where
      by_test : (t : Bool) → cond (t || true) not_allowed (cond (is_empty p) not_allowed (cond false p (group p not_allowed))) ≡ not_allowed
      by_test true = refl
      by_test false = refl

  nothing_interleave : (p : Pattern) → interleave_of p not_allowed ≡ not_allowed
  nothing_interleave p = by_test (is_not_allowed p)
    where
      by_test : (t : Bool) → cond (t || true) not_allowed (cond (is_empty p) not_allowed (cond false p (interleave p not_allowed))) ≡ not_allowed
      by_test true = refl
      by_test false = refl

  nothing_left : (p : Pattern) → mentions p m ≡ false → attribute_by fits m p ≡ not_allowed
  nothing_left (attribute c p) h = ap (λ (t : Bool). cond (t && fits p) empty not_allowed) h
  nothing_left (one_or_more p) h = ap (λ (x : Pattern). around x p) (nothing_left p h) ∙ nothing_group (star p)
  nothing_left (choice p q) h =
      let t = neither (mentions p m) (mentions q m) h in
      ap (λ (x : Pattern). choice_of x (attribute_by fits m q)) (nothing_left p t.0) ∙ ap (λ (x : Pattern). choice_of not_allowed x) (nothing_left q t.1)
  nothing_left (group p q) h =
      let t = neither (mentions p m) (mentions q m) h in
      ap (λ (x : Pattern). choice_of (group_of x q) (group_of p (attribute_by fits m q))) (nothing_left p t.0)
      ∙ ap (λ (x : Pattern). choice_of not_allowed (group_of p x)) (nothing_left q t.1) ∙ ap (λ (x : Pattern). choice_of not_allowed x) (nothing_group p)
  nothing_left (interleave p q) h =
      let t = neither (mentions p m) (mentions q m) h in
      ap (λ (x : Pattern). choice_of (interleave_of x q) (interleave_of p (attribute_by fits m q))) (nothing_left p t.0)
      ∙ ap (λ (x : Pattern). choice_of not_allowed (interleave_of p x)) (nothing_left q t.1) ∙ ap (λ (x : Pattern). choice_of not_allowed x) (nothing_interleave p)
  nothing_left not_allowed h = refl
  nothing_left empty h = refl
  nothing_left any_text h = refl
  nothing_left (typed t e) h = refl
  nothing_left (literal t v) h = refl
  nothing_left (listed p) h = refl
  nothing_left (ref i) h = refl

  -- the name is used: the other side of a group uses it where this one mentions it
  left_side : (p q : Pattern) → (mentions p m ≡ true → used q m ≡ true) → used (attribute_by fits m p) m ≡ true → used (group_of (attribute_by fits m p) q) m ≡ true
  left_side p q f h = elim (cases_Bool (mentions p m)) [
    | inl e ↦ group_used (attribute_by fits m p) q m h (f e)
    | inr e ↦ subst (λ (x : Pattern). used (group_of x q) m ≡ true) (sym (nothing_left p e)) refl
  ]

  right_side : (p q : Pattern) → (mentions q m ≡ true → used p m ≡ true) → used (attribute_by fits m q) m ≡ true → used (group_of p (attribute_by fits m q)) m ≡ true
  right_side p q f h = elim (cases_Bool (mentions q m)) [
    | inl e ↦ group_used p (attribute_by fits m q) m (f e) h
    | inr e ↦ subst (λ (x : Pattern). used (group_of p x) m ≡ true) (sym (nothing_left q e)) (subst (λ (x : Pattern). used x m ≡ true) (sym (nothing_group p)) refl)
  ]

  left_part : (p q : Pattern) → (mentions p m ≡ true → used q m ≡ true) → used (attribute_by fits m p) m ≡ true → used (interleave_of (attribute_by fits m p) q) m ≡ true
  left_part p q f h = elim (cases_Bool (mentions p m)) [
    | inl e ↦ interleave_used (attribute_by fits m p) q m h (f e)
    | inr e ↦ subst (λ (x : Pattern). used (interleave_of x q) m ≡ true) (sym (nothing_left p e)) refl
  ]

  right_part : (p q : Pattern) → (mentions q m ≡ true → used p m ≡ true) → used (attribute_by fits m q) m ≡ true → used (interleave_of p (attribute_by fits m q)) m ≡ true
  right_part p q f h = elim (cases_Bool (mentions q m)) [
    | inl e ↦ interleave_used p (attribute_by fits m q) m (f e) h
    | inr e ↦ subst (λ (x : Pattern). used (interleave_of p x) m ≡ true) (sym (nothing_left q e)) (subst (λ (x : Pattern). used x m ≡ true) (sym (nothing_interleave p)) refl)
  ]

  now : {p : Pattern} → IsParted p → used (attribute_by fits m p) m ≡ true
  now (parted_more {p} l more) = around_used (attribute_by fits m p) p m l (loose_used p m l)
  now (parted_choice {p} {q} a b) = both_used (attribute_by fits m p) (attribute_by fits m q) m (now a) (now b)
  now (parted_group {p} {q} a b f g) =
      both_used (group_of (attribute_by fits m p) q) (group_of p (attribute_by fits m q)) m (left_side p q (f m) (now a)) (right_side p q (g m) (now b))
  now (parted_interleave {p} {q} a b f g) =
      both_used (interleave_of (attribute_by fits m p) q) (interleave_of p (attribute_by fits m q)) m (left_part p q (f m) (now a)) (right_part p q (g m) (now b))
  now (parted_leaf {p} l) = leaf_used p m l

-- ---- what is mentioned behind an attribute was mentioned

abbrev Within : Name → Bool → Pattern → Type 0
Within n b p = mentions p n ≡ true → b ≡ true

module _ (n : Name) (b : Bool) where
  none_within : Within n b not_allowed
  none_within h = absurd (true≢false (sym h))

  both_within : (p q : Pattern) → Within n b p → Within n b q → Within n b (choice p q)
  both_within p q h k e = elim (or_cases (mentions p n) (mentions q n) e) [ inl x ↦ h x | inr x ↦ k x ]

  parts_within : (p q : Pattern) → Within n b (choice p q) → Within n b p × Within n b q
  parts_within p q h = ((λ e. h (or_left (mentions p n) (mentions q n) e)), (λ e. h (or_right (mentions p n) (mentions q n) e)))

  choice_within : (p q : Pattern) → Within n b p → Within n b q → Within n b (choice_of p q)
  choice_within p q h k = choice_holds (λ x. Within n b x) none_within both_within p q h parts_within k

  group_within : (p q : Pattern) → Within n b p → Within n b q → Within n b (group_of p q)
  group_within p q h k = group_holds (λ x. Within n b x) none_within p q h k (both_within p q h k)

  interleave_within : (p q : Pattern) → Within n b p → Within n b q → Within n b (interleave_of p q)
  interleave_within p q h k = interleave_holds (λ x. Within n b x) none_within p q h k (both_within p q h k)

  star_within : (p : Pattern) → Within n b p → Within n b (star p)
  unfolding star
  star_within p h =
      either (λ (x : Pattern). Within n b x) (is_star p) p (choice_of (one_or_more p) empty) h
      (choice_within (one_or_more p) empty h (λ e. absurd (true≢false (sym e))))

  around_within : (rest p : Pattern) → Within n b rest → Within n b p → Within n b (around rest p)
  around_within rest p h k =
      let s = star_within p k in
      either (λ (x : Pattern). Within n b x) (is_empty rest) (star p) (group_of (star p) (group_of rest (star p))) s (group_within (star p) (group_of rest (star p)) s (group_within rest (star p) h s))

  after_within : (fits : Pattern → Bool) (m : Name) (p : Pattern) → Within n b p → Within n b (attribute_by fits m p)
  after_within fits m (attribute c p) h = either (λ (x : Pattern). Within n b x) (has_attribute_name c m && fits p) empty not_allowed (λ e. absurd (true≢false (sym e))) none_within
  after_within fits m (one_or_more p) h = around_within (attribute_by fits m p) p (after_within fits m p h) h
  after_within fits m (choice p q) h = let t = parts_within p q h in choice_within (attribute_by fits m p) (attribute_by fits m q) (after_within fits m p t.0) (after_within fits m q t.1)
  after_within fits m (group p q) h =
      let t = parts_within p q h in
      choice_within (group_of (attribute_by fits m p) q) (group_of p (attribute_by fits m q)) (group_within (attribute_by fits m p) q (after_within fits m p t.0) t.1) (group_within p (attribute_by fits m q) t.0 (after_within fits m q t.1))
  after_within fits m (interleave p q) h =
      let t = parts_within p q h in
      choice_within (interleave_of (attribute_by fits m p) q) (interleave_of p (attribute_by fits m q)) (interleave_within (attribute_by fits m p) q (after_within fits m p t.0) t.1) (interleave_within p (attribute_by fits m q) t.0 (after_within fits m q t.1))
  after_within fits m not_allowed h = h
  after_within fits m empty h = none_within
  after_within fits m any_text h = none_within
  after_within fits m (typed t e) h = none_within
  after_within fits m (literal t v) h = none_within
  after_within fits m (listed p) h = none_within
  after_within fits m (ref i) h = none_within

-- ---- what is left is parted

parted_parts : (p q : Pattern) → IsParted (choice p q) → IsParted p × IsParted q
parted_parts p q (parted_choice a b) = (a, b)
parted_parts p q (parted_leaf l) = absurd (true≢false (sym l))

parted_choice_of : (p q : Pattern) → IsParted p → IsParted q → IsParted (choice_of p q)
parted_choice_of p q h k = choice_holds IsParted (parted_leaf refl) (λ a b u v. parted_choice u v) p q h parted_parts k

-- a side of a group that uses what the other mentions
abbrev Uses : Pattern → Pattern → Type 0
Uses p q = (n : Name) → mentions p n ≡ true → used q n ≡ true

parted_group_of : (p q : Pattern) → IsParted p → IsParted q → Uses p q → Uses q p → IsParted (group_of p q)
parted_group_of p q h k f g = group_holds IsParted (parted_leaf refl) p q h k (parted_group h k f g)

parted_interleave_of : (p q : Pattern) → IsParted p → IsParted q → Uses p q → Uses q p → IsParted (interleave_of p q)
parted_interleave_of p q h k f g = interleave_holds IsParted (parted_leaf refl) p q h k (parted_interleave h k f g)

parted_star : (p : Pattern) → is_loose p ≡ true → IsParted p → IsParted (star p)
unfolding star
parted_star p l h =
    either IsParted (is_star p) p (choice_of (one_or_more p) empty) h (parted_choice_of (one_or_more p) empty (parted_more l h) (parted_leaf refl))

parted_around : (rest p : Pattern) → is_loose p ≡ true → IsParted p → IsParted rest → ((n : Name) → used rest n ≡ true) → IsParted (around rest p)
parted_around rest p l h k u =
    let s = parted_star p l h in
    let uses : (n : Name) → used (star p) n ≡ true = λ n. star_used p n l in
    either IsParted (is_empty rest) (star p) (group_of (star p) (group_of rest (star p))) s
    (parted_group_of (star p) (group_of rest (star p)) s (parted_group_of rest (star p) k s (λ n e. uses n) (λ n e. u n)) (λ n e. group_used rest (star p) n (u n) (uses n)) (λ n e. uses n))

leaf_parted : (fits : Pattern → Bool) (m : Name) (p : Pattern) → is_leaf p ≡ true → IsParted (attribute_by fits m p)
leaf_parted fits m (attribute c p) l = either IsParted (has_attribute_name c m && fits p) empty not_allowed (parted_leaf refl) (parted_leaf refl)
leaf_parted fits m (one_or_more p) l = absurd (true≢false (sym l))
leaf_parted fits m (choice p q) l = absurd (true≢false (sym l))
leaf_parted fits m (group p q) l = absurd (true≢false (sym l))
leaf_parted fits m (interleave p q) l = absurd (true≢false (sym l))
leaf_parted fits m not_allowed l = parted_leaf refl
leaf_parted fits m empty l = parted_leaf refl
leaf_parted fits m any_text l = parted_leaf refl
leaf_parted fits m (typed t e) l = parted_leaf refl
leaf_parted fits m (literal t v) l = parted_leaf refl
leaf_parted fits m (listed p) l = parted_leaf refl
leaf_parted fits m (ref i) l = parted_leaf refl

after_parted : (fits : Pattern → Bool) (m : Name) {p : Pattern} → IsParted p → IsParted (attribute_by fits m p)
after_parted fits m (parted_more {p} l more) = parted_around (attribute_by fits m p) p l more (after_parted fits m more) (λ n. loose_used fits m p n l)
after_parted fits m (parted_choice {p} {q} a b) = parted_choice_of (attribute_by fits m p) (attribute_by fits m q) (after_parted fits m a) (after_parted fits m b)
after_parted fits m (parted_group {p} {q} a b f g) =
    parted_choice_of (group_of (attribute_by fits m p) q) (group_of p (attribute_by fits m q))
    (parted_group_of (attribute_by fits m p) q (after_parted fits m a) b (λ n e. f n (after_within n (mentions p n) fits m p (λ x. x) e)) (λ n e. still fits m a (nullable p) n (g n e)))
    (parted_group_of p (attribute_by fits m q) a (after_parted fits m b) (λ n e. still fits m b (nullable q) n (f n e)) (λ n e. g n (after_within n (mentions q n) fits m q (λ x. x) e)))
after_parted fits m (parted_interleave {p} {q} a b f g) =
    parted_choice_of (interleave_of (attribute_by fits m p) q) (interleave_of p (attribute_by fits m q))
    (parted_interleave_of (attribute_by fits m p) q (after_parted fits m a) b (λ n e. f n (after_within n (mentions p n) fits m p (λ x. x) e)) (λ n e. still fits m a (nullable p) n (g n e)))
    (parted_interleave_of p (attribute_by fits m q) a (after_parted fits m b) (λ n e. still fits m b (nullable q) n (f n e)) (λ n e. g n (after_within n (mentions q n) fits m q (λ x. x) e)))
after_parted fits m (parted_leaf {p} l) = leaf_parted fits m p l

pub attributes_use_names : AttributesUseNames
attributes_use_names fits n p h = record { parted = after_parted fits n h; now = now fits n h; still = λ m u. still fits n h (nullable p) m u }

-- ---- contents

free_parted : (p : Pattern) → is_attribute_free p ≡ true → IsParted p
free_parted (attribute c p) h = parted_leaf refl
free_parted (one_or_more p) h = parted_more (free_loose p h) (free_parted p h)
free_parted (choice p q) h = let t = and_parts (is_attribute_free p) (is_attribute_free q) h in parted_choice (free_parted p t.0) (free_parted q t.1)
free_parted (group p q) h =
    let t = and_parts (is_attribute_free p) (is_attribute_free q) h in
    parted_group (free_parted p t.0) (free_parted q t.1) (λ n e. free_used (nullable q) q n t.1) (λ n e. free_used (nullable p) p n t.0)
free_parted (interleave p q) h =
    let t = and_parts (is_attribute_free p) (is_attribute_free q) h in
    parted_interleave (free_parted p t.0) (free_parted q t.1) (λ n e. free_used (nullable q) q n t.1) (λ n e. free_used (nullable p) p n t.0)
free_parted not_allowed h = parted_leaf refl
free_parted empty h = parted_leaf refl
free_parted any_text h = parted_leaf refl
free_parted (typed t e) h = parted_leaf refl
free_parted (literal t v) h = parted_leaf refl
free_parted (listed p) h = parted_leaf refl
free_parted (ref i) h = parted_leaf refl

apart_uses : (p q : Pattern) → ((n : Name) → mentions p n ≡ true → mentions q n ≡ true → ⊥) → Uses p q
apart_uses p q apart n e = elim (cases_Bool (mentions q n)) [ inl x ↦ absurd (apart n e x) | inr x ↦ unmentioned_used (nullable q) q n x ]

parted_of : {p : Pattern} → IsApart p → IsParted p
parted_of (apart_free {p} h) = free_parted p h
parted_of apart_attribute = parted_leaf refl
parted_of (apart_one_or_more l h) = parted_more l (parted_of h)
parted_of (apart_choice h k) = parted_choice (parted_of h) (parted_of k)
parted_of (apart_group {p} {q} h k apart) = parted_group (parted_of h) (parted_of k) (apart_uses p q apart) (apart_uses q p (λ n e x. apart n x e))
parted_of (apart_interleave {p} {q} h k apart) = parted_interleave (parted_of h) (parted_of k) (apart_uses p q apart) (apart_uses q p (λ n e x. apart n x e))

pub apart_is_parted : ApartIsParted
apart_is_parted p h = parted_of h

-- ---- what is taken

module _ (first : Pattern → Pattern → Bool) (prefers : PrefersNothing first) where
  nothing_taken : (p : Pattern) → nullable p ≡ true → taken_classes first p ≡ []
  nothing_taken (attribute c p) h = absurd (true≢false (sym h))
  nothing_taken (one_or_more p) h = nothing_taken p h
  nothing_taken (choice p q) h = by_test (first p q) (prefers p q h) (λ e. nothing_taken p e) (λ e. nothing_taken q e)
    where
      by_test : (t : Bool) → nullable (cond t p q) ≡ true → (nullable p ≡ true → taken_classes first p ≡ []) → (nullable q ≡ true → taken_classes first q ≡ []) →
          cond t (taken_classes first p) (taken_classes first q) ≡ []
      by_test true e f g = f e
      by_test false e f g = g e
  nothing_taken (group p q) h =
      let t = and_parts (nullable p) (nullable q) h in
      ap (λ (xs : List Class). xs ++ taken_classes first q) (nothing_taken p t.0) ∙ nothing_taken q t.1
  nothing_taken (interleave p q) h =
      let t = and_parts (nullable p) (nullable q) h in
      ap (λ (xs : List Class). xs ++ taken_classes first q) (nothing_taken p t.0) ∙ nothing_taken q t.1
  nothing_taken not_allowed h = refl
  nothing_taken empty h = refl
  nothing_taken any_text h = refl
  nothing_taken (typed t e) h = refl
  nothing_taken (literal t v) h = refl
  nothing_taken (listed p) h = refl
  nothing_taken (ref i) h = refl

  abbrev NoneHas : Name → List Class → Type 0
  NoneHas n cs = AllByRecursion (λ (c : Class). has_attribute_name c n ≡ false) cs

  none_both : (n : Name) (cs ds : List Class) → NoneHas n cs → NoneHas n ds → NoneHas n (cs ++ ds)
  none_both n [] ds h k = k
  none_both n (c ∷ cs) ds h k = (h.0, none_both n cs ds h.1 k)

  not_true : (t : Bool) → not t ≡ true → t ≡ false
  not_true true e = sym e
  not_true false e = refl

  not_taken : (free : Bool) (p : Pattern) (n : Name) → (free ≡ true → taken_classes first p ≡ []) → used_in free p n ≡ true → NoneHas n (taken_classes first p)
  not_taken true p n k h = subst (λ (cs : List Class). NoneHas n cs) (sym (k refl)) tt
  not_taken false (attribute c p) n k h = (not_true (has_attribute_name c n) h, tt)
  not_taken false (one_or_more p) n k h = not_taken (nullable p) p n (nothing_taken p) h
  not_taken false (choice p q) n k h =
      let t = and_parts (used_in false p n) (used_in false q n) h in
      either (λ (cs : List Class). NoneHas n cs) (first p q) (taken_classes first p) (taken_classes first q)
      (not_taken false p n (λ e. absurd (true≢false (sym e))) t.0) (not_taken false q n (λ e. absurd (true≢false (sym e))) t.1)
  not_taken false (group p q) n k h =
      let t = and_parts (used p n) (used q n) h in
      none_both n (taken_classes first p) (taken_classes first q) (not_taken (nullable p) p n (nothing_taken p) t.0) (not_taken (nullable q) q n (nothing_taken q) t.1)
  not_taken false (interleave p q) n k h =
      let t = and_parts (used p n) (used q n) h in
      none_both n (taken_classes first p) (taken_classes first q) (not_taken (nullable p) p n (nothing_taken p) t.0) (not_taken (nullable q) q n (nothing_taken q) t.1)
  not_taken false not_allowed n k h = tt
  not_taken false empty n k h = tt
  not_taken false any_text n k h = tt
  not_taken false (typed t e) n k h = tt
  not_taken false (literal t v) n k h = tt
  not_taken false (listed p) n k h = tt
  not_taken false (ref i) n k h = tt

pub used_names_are_not_taken : UsedNamesAreNotTaken
used_names_are_not_taken first prefers p n h = not_taken first prefers (nullable p) p n (nothing_taken first prefers p) h

-- ---- no two that are taken can have one name

module _ (first : Pattern → Pattern → Bool) (prefers : PrefersNothing first) where
  abbrev AreMentioned : Pattern → List Class → Type 0
  AreMentioned p cs = AllByRecursion (λ (c : Class). (n : Name) → has_attribute_name c n ≡ true → mentions p n ≡ true) cs

  mentioned_more : (p q : Pattern) (cs : List Class) → ((n : Name) → mentions p n ≡ true → mentions q n ≡ true) → AreMentioned p cs → AreMentioned q cs
  mentioned_more p q [] f h = tt
  mentioned_more p q (c ∷ cs) f h = ((λ n e. f n (h.0 n e)), mentioned_more p q cs f h.1)

  mentioned_both : (p : Pattern) (cs ds : List Class) → AreMentioned p cs → AreMentioned p ds → AreMentioned p (cs ++ ds)
  mentioned_both p [] ds h k = k
  mentioned_both p (c ∷ cs) ds h k = (h.0, mentioned_both p cs ds h.1 k)

  -- what is taken is mentioned
  taken_mentioned : (p : Pattern) → AreMentioned p (taken_classes first p)
  taken_mentioned (attribute c p) = ((λ n e. e), tt)
  taken_mentioned (one_or_more p) = taken_mentioned p
  taken_mentioned (choice p q) =
      either (λ (cs : List Class). AreMentioned (choice p q) cs) (first p q) (taken_classes first p) (taken_classes first q)
      (mentioned_more p (choice p q) (taken_classes first p) (λ n e. or_left (mentions p n) (mentions q n) e) (taken_mentioned p))
      (mentioned_more q (choice p q) (taken_classes first q) (λ n e. or_right (mentions p n) (mentions q n) e) (taken_mentioned q))
  taken_mentioned (group p q) =
      mentioned_both (group p q) (taken_classes first p) (taken_classes first q)
      (mentioned_more p (group p q) (taken_classes first p) (λ n e. or_left (mentions p n) (mentions q n) e) (taken_mentioned p))
      (mentioned_more q (group p q) (taken_classes first q) (λ n e. or_right (mentions p n) (mentions q n) e) (taken_mentioned q))
  taken_mentioned (interleave p q) =
      mentioned_both (interleave p q) (taken_classes first p) (taken_classes first q)
      (mentioned_more p (interleave p q) (taken_classes first p) (λ n e. or_left (mentions p n) (mentions q n) e) (taken_mentioned p))
      (mentioned_more q (interleave p q) (taken_classes first q) (λ n e. or_right (mentions p n) (mentions q n) e) (taken_mentioned q))
  taken_mentioned not_allowed = tt
  taken_mentioned empty = tt
  taken_mentioned any_text = tt
  taken_mentioned (typed t e) = tt
  taken_mentioned (literal t v) = tt
  taken_mentioned (listed p) = tt
  taken_mentioned (ref i) = tt

  -- a class whose names are in none of a list
  one_apart : (c : Class) (ds : List Class) → ((n : Name) → has_attribute_name c n ≡ true → AllByRecursion (λ (d : Class). has_attribute_name d n ≡ false) ds) → AllByRecursion (ShareNoName c) ds
  one_apart c [] h = tt
  one_apart c (d ∷ ds) h = (record { none = λ n e. (h n e).0 }, one_apart c ds (λ n e. (h n e).1))

  more_apart : (c : Class) (cs ds : List Class) → AllByRecursion (ShareNoName c) cs → AllByRecursion (ShareNoName c) ds → AllByRecursion (ShareNoName c) (cs ++ ds)
  more_apart c [] ds h k = k
  more_apart c (d ∷ cs) ds h k = (h.0, more_apart c cs ds h.1 k)

  -- the classes of two sides, of which the other uses what the one mentions
  sides_apart : (p q : Pattern) → Uses p q → (cs : List Class) → AreMentioned p cs → EachTwo ShareNoName cs → EachTwo ShareNoName (taken_classes first q) → EachTwo ShareNoName (cs ++ taken_classes first q)
  sides_apart p q uses [] m h k = k
  sides_apart p q uses (c ∷ cs) m h k = (
    more_apart c cs (taken_classes first q) h.0 (one_apart c (taken_classes first q) (λ n e. used_names_are_not_taken first prefers q n (uses n (m.0 n e)))),
    sides_apart p q uses cs m.1 h.1 k,
  )

  leaf_apart : (p : Pattern) → is_leaf p ≡ true → EachTwo ShareNoName (taken_classes first p)
  leaf_apart (attribute c p) l = (tt, tt)
  leaf_apart (one_or_more p) l = absurd (true≢false (sym l))
  leaf_apart (choice p q) l = absurd (true≢false (sym l))
  leaf_apart (group p q) l = absurd (true≢false (sym l))
  leaf_apart (interleave p q) l = absurd (true≢false (sym l))
  leaf_apart not_allowed l = tt
  leaf_apart empty l = tt
  leaf_apart any_text l = tt
  leaf_apart (typed t e) l = tt
  leaf_apart (literal t v) l = tt
  leaf_apart (listed p) l = tt
  leaf_apart (ref i) l = tt

  taken_apart : {p : Pattern} → IsParted p → EachTwo ShareNoName (taken_classes first p)
  taken_apart (parted_more l h) = taken_apart h
  taken_apart (parted_choice {p} {q} h k) =
      either (λ (cs : List Class). EachTwo ShareNoName cs) (first p q) (taken_classes first p) (taken_classes first q) (taken_apart h) (taken_apart k)
  taken_apart (parted_group {p} {q} h k f g) = sides_apart p q f (taken_classes first p) (taken_mentioned p) (taken_apart h) (taken_apart k)
  taken_apart (parted_interleave {p} {q} h k f g) = sides_apart p q f (taken_classes first p) (taken_mentioned p) (taken_apart h) (taken_apart k)
  taken_apart (parted_leaf {p} l) = leaf_apart p l

pub taken_names_are_apart : TakenNamesAreApart
taken_names_are_apart first prefers p h = taken_apart first prefers h
