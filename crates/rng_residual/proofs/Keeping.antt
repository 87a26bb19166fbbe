-- A property that the constructors keep is kept by those that keep patterns small, and by what is left behind a string.
use Rattle.std.proofs.Common.{◌≡◌, Bool, true, false, ◌&&◌, ◌||◌, refl, sym, subst}
use Rattle.std.specs.Prelude.{if◌then◌else◌}
use Rattle.nx_base.specs.declared.name.Name.{Name}
use Rattle.rng_core.specs.Names.{has_attribute_name}
use Rattle.rng_core.specs.Patterns.{Pattern, not_allowed, empty, any_text, typed, literal, listed, attribute, ref, one_or_more, choice, group, interleave}
use Rattle.rng_kept.specs.SmallPatterns.{is_not_allowed, is_empty, is_side, with_side, choice_of, group_of, interleave_of, is_star, star}
use Rattle.rng_kept.specs.Nullable.{nullable}
use Rattle.rng_kept.specs.Lists.{lists_are}
use Rattle.rng_residual.proofs.SmallPatterns.{by_test, and_true}
use Rattle.rng_residual.proofs.Nullable.{true_and, star_form, StarForm, parts_or_none, none_or_parts}
use Rattle.rng_kept.specs.Strings.{Tests, after_by}
use Rattle.rng_kept.specs.Attributes.{around, attribute_by}

pub or_false : (a b : Bool) → (a || b) ≡ false → (a ≡ false) × (b ≡ false)
or_false true b h = cc
or_false false b h = (refl, h)

-- the constructors keep a property, and so do the parts
pub record Keeps (C : Pattern → Type 0) : Type 0 where
  pub none : C not_allowed
  pub nothing : C empty
  pub of_choice : (p q : Pattern) → is_not_allowed p ≡ false → is_not_allowed q ≡ false → C p → C q → C (choice p q)
  pub from_choice : (p q : Pattern) → C (choice p q) → C p × C q
  pub of_group : (p q : Pattern) → is_not_allowed p ≡ false → is_not_allowed q ≡ false → C p → C q → C (group p q)
  pub from_group : (p q : Pattern) → C (group p q) → C p × C q
  pub of_interleave : (p q : Pattern) → is_not_allowed p ≡ false → is_not_allowed q ≡ false → C p → C q → C (interleave p q)
  pub from_interleave : (p q : Pattern) → C (interleave p q) → C p × C q
  pub of_more : (p : Pattern) → is_not_allowed p ≡ false → C p → C (one_or_more p)
  pub from_more : (p : Pattern) → C (one_or_more p) → C p

pub if_keeps : {C : Pattern → Type 0} → Keeps C → (t : Bool) (p : Pattern) → C p → C (if t then p else not_allowed)
if_keeps k true p c = c
if_keeps k false p c = k.none

with_side_keeps : {C : Pattern → Type 0} → Keeps C → (p q : Pattern) → C p → C q → C (with_side p q)
with_side_keeps {C = C} k p q c d =
    by_test C (is_not_allowed p) _ _ (λ _. d)
    (λ h. by_test C (is_not_allowed q) _ _ (λ _. c)
    (λ i. by_test C (is_side q p) _ _ (λ _. c) (λ _. k.of_choice p q h i c d)))

pub choice_keeps : {C : Pattern → Type 0} → Keeps C → (p q : Pattern) → C p → C q → C (choice_of p q)
choice_keeps k p (choice a b) c d =
    let w = k.from_choice a b d in
    choice_keeps k (choice_of p a) b (choice_keeps k p a c w.0) w.1
choice_keeps k r not_allowed c d = with_side_keeps k r not_allowed c d
choice_keeps k r empty c d = with_side_keeps k r empty c d
choice_keeps k r any_text c d = with_side_keeps k r any_text c d
choice_keeps k r (typed t e) c d = with_side_keeps k r (typed t e) c d
choice_keeps k r (literal t v) c d = with_side_keeps k r (literal t v) c d
choice_keeps k r (listed p) c d = with_side_keeps k r (listed p) c d
choice_keeps k r (attribute n p) c d = with_side_keeps k r (attribute n p) c d
choice_keeps k r (ref i) c d = with_side_keeps k r (ref i) c d
choice_keeps k r (one_or_more p) c d = with_side_keeps k r (one_or_more p) c d
choice_keeps k r (group p q) c d = with_side_keeps k r (group p q) c d
choice_keeps k r (interleave p q) c d = with_side_keeps k r (interleave p q) c d

pub group_keeps : {C : Pattern → Type 0} → Keeps C → (p q : Pattern) → C p → C q → C (group_of p q)
group_keeps {C = C} k p q c d =
    by_test C (is_not_allowed p || is_not_allowed q) _ _ (λ _. k.none)
    (λ h. by_test C (is_empty p) _ _ (λ _. d)
    (λ _. by_test C (is_empty q) _ _ (λ _. c)
    (λ _. let e = or_false (is_not_allowed p) (is_not_allowed q) h in k.of_group p q e.0 e.1 c d)))

pub interleave_keeps : {C : Pattern → Type 0} → Keeps C → (p q : Pattern) → C p → C q → C (interleave_of p q)
interleave_keeps {C = C} k p q c d =
    by_test C (is_not_allowed p || is_not_allowed q) _ _ (λ _. k.none)
    (λ h. by_test C (is_empty p) _ _ (λ _. d)
    (λ _. by_test C (is_empty q) _ _ (λ _. c)
    (λ _. let e = or_false (is_not_allowed p) (is_not_allowed q) h in k.of_interleave p q e.0 e.1 c d)))

pub star_keeps : {C : Pattern → Type 0} → Keeps C → (p : Pattern) → C (one_or_more p) → C (star p)
unfolding star
star_keeps {C = C} k p c =
    by_test C (is_star p) _ _ (λ _. k.from_more p c) (λ _. choice_keeps k (one_or_more p) empty c k.nothing)

-- and what is left behind a string
pub after_keeps : {C : Pattern → Type 0} → Keeps C → (tests : Tests) (p : Pattern) → C p → C (after_by tests p)
after_keeps k tests any_text c = c
after_keeps k tests (typed type excepts) c = if_keeps k (tests.of_data type excepts) empty k.nothing
after_keeps k tests (literal type wanted) c = if_keeps k (tests.of_value type wanted) empty k.nothing
after_keeps k tests (listed p) c = if_keeps k (tests.of_list p) empty k.nothing
after_keeps k tests (one_or_more p) c = group_keeps k _ _ (after_keeps k tests p (k.from_more p c)) (star_keeps k p c)
after_keeps k tests (choice p q) c =
    let w = k.from_choice p q c in choice_keeps k _ _ (after_keeps k tests p w.0) (after_keeps k tests q w.1)
after_keeps k tests (group p q) c =
    let w = k.from_group p q c in
    choice_keeps k _ _ (group_keeps k _ _ (after_keeps k tests p w.0) w.1) (if_keeps k (nullable p) _ (after_keeps k tests q w.1))
after_keeps k tests (interleave p q) c =
    let w = k.from_interleave p q c in
    choice_keeps k _ _ (interleave_keeps k _ _ (after_keeps k tests p w.0) w.1) (interleave_keeps k _ _ w.0 (after_keeps k tests q w.1))
after_keeps k tests not_allowed c = k.none
after_keeps k tests empty c = k.none
after_keeps k tests (attribute n p) c = k.none
after_keeps k tests (ref i) c = k.none

around_keeps : {C : Pattern → Type 0} → Keeps C → (d p : Pattern) → C d → C (one_or_more p) → C (around d p)
around_keeps {C = C} k d p c e =
    by_test C (is_empty d) _ _ (λ _. star_keeps k p e)
    (λ _. group_keeps k (star p) (group_of d (star p)) (star_keeps k p e) (group_keeps k d (star p) c (star_keeps k p e)))

-- behind an attribute
pub attribute_keeps : {C : Pattern → Type 0} → Keeps C → (fits : Pattern → Bool) (n : Name) (p : Pattern) → C p → C (attribute_by fits n p)
attribute_keeps k fits n (attribute class p) c = if_keeps k (has_attribute_name class n && fits p) empty k.nothing
attribute_keeps k fits n (one_or_more p) c = around_keeps k _ p (attribute_keeps k fits n p (k.from_more p c)) c
attribute_keeps k fits n (choice p q) c =
    let w = k.from_choice p q c in choice_keeps k _ _ (attribute_keeps k fits n p w.0) (attribute_keeps k fits n q w.1)
attribute_keeps k fits n (group p q) c =
    let w = k.from_group p q c in
    choice_keeps k _ _ (group_keeps k _ _ (attribute_keeps k fits n p w.0) w.1) (group_keeps k _ _ w.0 (attribute_keeps k fits n q w.1))
attribute_keeps k fits n (interleave p q) c =
    let w = k.from_interleave p q c in
    choice_keeps k _ _ (interleave_keeps k _ _ (attribute_keeps k fits n p w.0) w.1) (interleave_keeps k _ _ w.0 (attribute_keeps k fits n q w.1))
attribute_keeps k fits n not_allowed c = k.none
attribute_keeps k fits n empty c = k.none
attribute_keeps k fits n any_text c = k.none
attribute_keeps k fits n (typed t e) c = k.none
attribute_keeps k fits n (literal t v) c = k.none
attribute_keeps k fits n (listed p) c = k.none
attribute_keeps k fits n (ref i) c = k.none

-- lists pass a test
pub lists_keep : (test : Pattern → Bool) → Keeps (λ p. lists_are test p ≡ true)
lists_keep test = record {
  none = refl;
  nothing = refl;
  of_choice = λ p q h i c d. true_and _ _ c d;
  from_choice = λ p q c. and_true _ _ c;
  of_group = λ p q h i c d. true_and _ _ c d;
  from_group = λ p q c. and_true _ _ c;
  of_interleave = λ p q h i c d. true_and _ _ c d;
  from_interleave = λ p q c. and_true _ _ c;
  of_more = λ p h c. c;
  from_more = λ p c. c;
}

-- ---- something is left

some_with_side : (p q : Pattern) → is_not_allowed p ≡ false → is_not_allowed (with_side p q) ≡ false
some_with_side p q h =
    by_test (λ r. is_not_allowed r ≡ false) (is_not_allowed p) _ _ (λ e. cc)
    (λ _. by_test (λ r. is_not_allowed r ≡ false) (is_not_allowed q) _ _ (λ _. h)
    (λ _. by_test (λ r. is_not_allowed r ≡ false) (is_side q p) _ _ (λ _. h) (λ _. refl)))

pub some_choice : (p q : Pattern) → is_not_allowed p ≡ false → is_not_allowed (choice_of p q) ≡ false
some_choice p (choice a b) h = some_choice (choice_of p a) b (some_choice p a h)
some_choice r not_allowed h = some_with_side r not_allowed h
some_choice r empty h = some_with_side r empty h
some_choice r any_text h = some_with_side r any_text h
some_choice r (typed t e) h = some_with_side r (typed t e) h
some_choice r (literal t v) h = some_with_side r (literal t v) h
some_choice r (listed p) h = some_with_side r (listed p) h
some_choice r (attribute n p) h = some_with_side r (attribute n p) h
some_choice r (ref i) h = some_with_side r (ref i) h
some_choice r (one_or_more p) h = some_with_side r (one_or_more p) h
some_choice r (group p q) h = some_with_side r (group p q) h
some_choice r (interleave p q) h = some_with_side r (interleave p q) h

either_false : (a b : Bool) → a ≡ false → b ≡ false → (a || b) ≡ false
either_false a b h i = rw (h, i) refl

pub some_group : (p q : Pattern) → is_not_allowed p ≡ false → is_not_allowed q ≡ false → is_not_allowed (group_of p q) ≡ false
some_group p q h i =
    rw (either_false (is_not_allowed p) (is_not_allowed q) h i)
    (by_test (λ r. is_not_allowed r ≡ false) (is_empty p) _ _ (λ _. i)
    (λ _. by_test (λ r. is_not_allowed r ≡ false) (is_empty q) _ _ (λ _. h) (λ _. refl)))

pub some_interleave : (p q : Pattern) → is_not_allowed p ≡ false → is_not_allowed q ≡ false → is_not_allowed (interleave_of p q) ≡ false
some_interleave p q h i =
    rw (either_false (is_not_allowed p) (is_not_allowed q) h i)
    (by_test (λ r. is_not_allowed r ≡ false) (is_empty p) _ _ (λ _. i)
    (λ _. by_test (λ r. is_not_allowed r ≡ false) (is_empty q) _ _ (λ _. h) (λ _. refl)))

some_form : (p : Pattern) → StarForm p → is_not_allowed p ≡ false
some_form _ (parts_or_none q) = refl
some_form _ (none_or_parts q) = refl

pub some_star : (p : Pattern) → is_not_allowed (star p) ≡ false
unfolding star
some_star p =
    by_test (λ r. is_not_allowed r ≡ false) (is_star p) _ _
    (λ h. some_form p (star_form p h)) (λ _. some_choice (one_or_more p) empty refl)
