-- Patterns in which no more stands than in another one, and in which strings stand alone.
use Rattle.std.proofs.Common.{◌≡◌, Bool, true, false, refl, sym, ◌∙◌}
use Rattle.std.specs.Prelude.{not, ◌&&◌, ◌||◌, if◌then◌else◌}
use Rattle.std.proofs.lemmas.Bool.{and_parts, and_from, or_parts, or_from, false≢true, not-true, not_from_false}
use Rattle.nx_base.specs.declared.name.Name.{Name}
use Rattle.rng_core.specs.Names.{has_attribute_name}
use Rattle.rng_core.specs.Patterns.{Pattern, not_allowed, empty, any_text, typed, literal, listed, attribute, ref, one_or_more, choice, group, interleave}
use Rattle.rng_kept.specs.Attributes.{attribute_by, close, drop}
use Rattle.rng_kept.specs.Nullable.{nullable}
use Rattle.rng_kept.specs.Skipping.{ending}
use Rattle.rng_kept.specs.SmallPatterns.{is_not_allowed, is_empty, is_star, choice_of, group_of, interleave_of, one_or_more_of, star}
use Rattle.rng_kept.specs.SolidStrings.{solid_tests, loosen}
use Rattle.rng_kept.specs.Strings.{Tests, after_by}
use Rattle.rng_names.proofs.Used.{either, choice_holds, group_holds, interleave_holds}
use Rattle.rng_fill.specs.Fillable.{has_string_leaf}
use Rattle.rng_alone.specs.Alone.{has_complex, go_beside, are_beside, is_alone}

-- strings stand alone, and a string or an element or text stands there only where these flags say so
pub record Under (s c : Bool) (left : Pattern) : Type 0 where
  pub strings : s ≡ false → has_string_leaf left ≡ false
  pub complex : c ≡ false → has_complex left ≡ false
  pub alone : is_alone left ≡ true

-- no more than in a pattern
abbrev pub IsUnder : Pattern → Pattern → Type 0
IsUnder p left = Under (has_string_leaf p) (has_complex p) left

pub itself : {p : Pattern} → is_alone p ≡ true → IsUnder p p
itself a = record { strings = λ e. e; complex = λ e. e; alone = a }

pub nothing_left : {s c : Bool} → Under s c not_allowed
nothing_left = record { strings = λ e. refl; complex = λ e. refl; alone = refl }

pub empty_left : {s c : Bool} → Under s c empty
empty_left = record { strings = λ e. refl; complex = λ e. refl; alone = refl }

pub if_left : {s c : Bool} (b : Bool) (p : Pattern) → Under s c p → Under s c (if b then p else not_allowed)
if_left true p u = u
if_left false p u = nothing_left

-- ---- more may stand there

pub wider_left : {s c : Bool} (t d : Bool) {p : Pattern} → Under s c p → Under (s || t) (c || d) p
wider_left {s = s} {c = c} t d u = record {
  strings = λ e. u.strings (or_parts s t e).0;
  complex = λ e. u.complex (or_parts c d e).0;
  alone = u.alone;
}

pub wider_right : {t d : Bool} (s c : Bool) {p : Pattern} → Under t d p → Under (s || t) (c || d) p
wider_right {t = t} {d = d} s c u = record {
  strings = λ e. u.strings (or_parts s t e).1;
  complex = λ e. u.complex (or_parts c d e).1;
  alone = u.alone;
}

-- ---- what is put together

pub both_left : {s c : Bool} (p q : Pattern) → Under s c p → Under s c q → Under s c (choice p q)
both_left p q u v = record {
  strings = λ e. or_from (has_string_leaf p) (has_string_leaf q) (u.strings e) (v.strings e);
  complex = λ e. or_from (has_complex p) (has_complex q) (u.complex e) (v.complex e);
  alone = and_from (is_alone p) (is_alone q) u.alone v.alone;
}

sides_left : {s c : Bool} (p q : Pattern) → Under s c (choice p q) → Under s c p × Under s c q
sides_left p q u =
    let a = and_parts (is_alone p) (is_alone q) u.alone in (
      record {
        strings = λ e. (or_parts (has_string_leaf p) (has_string_leaf q) (u.strings e)).0;
        complex = λ e. (or_parts (has_complex p) (has_complex q) (u.complex e)).0;
        alone = a.0;
      },
      record {
        strings = λ e. (or_parts (has_string_leaf p) (has_string_leaf q) (u.strings e)).1;
        complex = λ e. (or_parts (has_complex p) (has_complex q) (u.complex e)).1;
        alone = a.1;
      },
    )

pub choice_left : {s c : Bool} (p q : Pattern) → Under s c p → Under s c q → Under s c (choice_of p q)
choice_left {s = s} {c = c} p q u v =
    choice_holds (λ x. Under s c x) nothing_left (λ a b h k. both_left a b h k) p q u (λ a b h. sides_left a b h) v

-- what stands beside one another still may where less stands there
up : (b c : Bool) → (b ≡ false → c ≡ false) → c ≡ true → b ≡ true
up true c fewer is = refl
up false c fewer is = absurd (false≢true (sym (fewer refl) ∙ is))

pub still_beside : (s c t d s' c' t' d' : Bool) → (s ≡ false → s' ≡ false) → (c ≡ false → c' ≡ false) → (t ≡ false → t' ≡ false)
    → (d ≡ false → d' ≡ false) → go_beside s c t d ≡ true → go_beside s' c' t' d' ≡ true
still_beside s c t d false c' false d' hs hc ht hd h = refl
still_beside s c t d false false true d' hs hc ht hd h = refl
still_beside s c t d false true true d' hs hc ht hd h = absurd (second s c t d (up t true ht refl) (up c true hc refl) h)
  where
    second : (s c t d : Bool) → t ≡ true → c ≡ true → go_beside s c t d ≡ true → ⊥
    second true true true d a b h = absurd (false≢true h)
    second false true true d a b h = absurd (false≢true h)
    second s false t d a b h = absurd (false≢true b)
    second s true false d a b h = absurd (false≢true a)
still_beside s c t d true c' false false hs hc ht hd h = refl
still_beside s c t d true c' false true hs hc ht hd h = absurd (first s c t d (up s true hs refl) (up d true hd refl) h)
  where
    first : (s c t d : Bool) → s ≡ true → d ≡ true → go_beside s c t d ≡ true → ⊥
    first true c true true a b h = absurd (false≢true h)
    first true c false true a b h = absurd (false≢true h)
    first false c t d a b h = absurd (false≢true a)
    first true c t false a b h = absurd (false≢true b)
still_beside s c t d true c' true d' hs hc ht hd h = absurd (both s c t d (up s true hs refl) (up t true ht refl) h)
  where
    both : (s c t d : Bool) → s ≡ true → t ≡ true → go_beside s c t d ≡ true → ⊥
    both true c true d a b h = absurd (false≢true h)
    both false c t d a b h = absurd (false≢true a)
    both true c false d a b h = absurd (false≢true b)

module _ {s c t d : Bool} (beside : go_beside s c t d ≡ true) where
  pub grouped_alone : (p q : Pattern) → Under s c p → Under t d q → (are_beside p q && (is_alone p && is_alone q)) ≡ true
  grouped_alone p q u v =
      and_from (are_beside p q) (is_alone p && is_alone q)
      (still_beside s c t d (has_string_leaf p) (has_complex p) (has_string_leaf q) (has_complex q) u.strings u.complex v.strings v.complex beside)
      (and_from (is_alone p) (is_alone q) u.alone v.alone)

  pub group_left : (p q : Pattern) → Under s c p → Under t d q → Under (s || t) (c || d) (group_of p q)
  group_left p q u v =
      group_holds (λ x. Under (s || t) (c || d) x) nothing_left p q (wider_left t d u) (wider_right s c v)
      (record {
        strings = λ e.
            let o = or_parts s t e in or_from (has_string_leaf p) (has_string_leaf q) (u.strings o.0) (v.strings o.1);
        complex = λ e. let o = or_parts c d e in or_from (has_complex p) (has_complex q) (u.complex o.0) (v.complex o.1);
        alone = grouped_alone p q u v;
      })

  pub interleave_left : (p q : Pattern) → Under s c p → Under t d q → Under (s || t) (c || d) (interleave_of p q)
  interleave_left p q u v =
      interleave_holds (λ x. Under (s || t) (c || d) x) nothing_left p q (wider_left t d u) (wider_right s c v)
      (record {
        strings = λ e.
            let o = or_parts s t e in or_from (has_string_leaf p) (has_string_leaf q) (u.strings o.0) (v.strings o.1);
        complex = λ e. let o = or_parts c d e in or_from (has_complex p) (has_complex q) (u.complex o.0) (v.complex o.1);
        alone = grouped_alone p q u v;
      })

-- ---- repetitions, which have no string

pub repeated_alone : (p : Pattern) → has_string_leaf p ≡ false → is_alone p ≡ true → (not (has_string_leaf p) && is_alone p) ≡ true
repeated_alone p none a = and_from (not (has_string_leaf p)) (is_alone p) (not_from_false (has_string_leaf p) none) a

pub repeated_parts : (p : Pattern) → (not (has_string_leaf p) && is_alone p) ≡ true → (has_string_leaf p ≡ false) × (is_alone p ≡ true)
repeated_parts p h =
    let w = and_parts (not (has_string_leaf p)) (is_alone p) h in (not-true (has_string_leaf p) w.0, w.1)

pub more_left : {s c : Bool} (p : Pattern) → s ≡ false → Under s c p → Under s c (one_or_more_of p)
more_left {s = s} {c = c} p none u =
    either (λ x. Under s c x) (is_not_allowed p) not_allowed (one_or_more p) nothing_left
    (record { strings = u.strings; complex = u.complex; alone = repeated_alone p (u.strings none) u.alone })

pub star_left : {s c : Bool} (p : Pattern) → s ≡ false → Under s c p → Under s c (star p)
unfolding star
star_left {s = s} {c = c} p none u =
    either (λ x. Under s c x) (is_star p) p (choice_of (one_or_more p) empty) u
    (choice_left (one_or_more p) empty
    (record { strings = u.strings; complex = u.complex; alone = repeated_alone p (u.strings none) u.alone }) empty_left)

-- two parts without a string may stand beside one another
plain_beside : (s c t d : Bool) → s ≡ false → t ≡ false → go_beside s c t d ≡ true
plain_beside false c false d a b = refl
plain_beside true c t d a b = absurd (false≢true (sym a))
plain_beside false c true d a b = absurd (false≢true (sym b))

same_twice : {s c : Bool} {p : Pattern} → Under (s || s) (c || c) p → Under s c p
same_twice {s = s} {c = c} u = record {
  strings = λ e. u.strings (or_from s s e e);
  complex = λ e. u.complex (or_from c c e e);
  alone = u.alone;
}

pub plain_group : {s c : Bool} (p q : Pattern) → s ≡ false → Under s c p → Under s c q → Under s c (group_of p q)
plain_group {s = s} {c = c} p q none u v = same_twice (group_left (plain_beside s c s c none none) p q u v)

-- ---- a group, of which the sides stand beside one another

pub group_parts : (p q : Pattern) → (are_beside p q && (is_alone p && is_alone q)) ≡ true
    → (are_beside p q ≡ true) × (is_alone p ≡ true) × (is_alone q ≡ true)
group_parts p q h =
    let w = and_parts (are_beside p q) (is_alone p && is_alone q) h in
    let v = and_parts (is_alone p) (is_alone q) w.1 in
    (w.0, v.0, v.1)

module _ (p q : Pattern) (beside : are_beside p q ≡ true) where
  pub as_group : {x y : Pattern} → IsUnder p x → IsUnder q y → IsUnder (group p q) (group_of x y)
  as_group {x = x} {y = y} u v = group_left beside x y u v

  pub as_interleave : {x y : Pattern} → IsUnder p x → IsUnder q y → IsUnder (interleave p q) (interleave_of x y)
  as_interleave {x = x} {y = y} u v = interleave_left beside x y u v

-- ---- what is left of a pattern whose strings stand alone

pub after_left : (tests : Tests) (p : Pattern) → is_alone p ≡ true → IsUnder p (after_by tests p)
after_left tests any_text a = record { strings = λ e. refl; complex = λ e. e; alone = refl }
after_left tests (typed type excepts) a = if_left (tests.of_data type excepts) empty empty_left
after_left tests (literal type wanted) a = if_left (tests.of_value type wanted) empty empty_left
after_left tests (listed p) a = if_left (tests.of_list p) empty empty_left
after_left tests (one_or_more p) a =
    let w = repeated_parts p a in
    plain_group (after_by tests p) (star p) w.0 (after_left tests p w.1) (star_left p w.0 (itself w.1))
after_left tests (choice p q) a =
    let w = and_parts (is_alone p) (is_alone q) a in
    choice_left (after_by tests p) (after_by tests q)
    (wider_left (has_string_leaf q) (has_complex q) (after_left tests p w.0))
    (wider_right (has_string_leaf p) (has_complex p) (after_left tests q w.1))
after_left tests (group p q) a =
    let w = group_parts p q a in
    choice_left (group_of (after_by tests p) q) (if nullable p then after_by tests q else not_allowed)
    (as_group p q w.0 (after_left tests p w.1) (itself w.2))
    (if_left (nullable p) (after_by tests q) (wider_right (has_string_leaf p) (has_complex p) (after_left tests q w.2)))
after_left tests (interleave p q) a =
    let w = group_parts p q a in
    choice_left (interleave_of (after_by tests p) q) (interleave_of p (after_by tests q))
    (as_interleave p q w.0 (after_left tests p w.1) (itself w.2))
    (as_interleave p q w.0 (itself w.1) (after_left tests q w.2))
after_left tests not_allowed a = nothing_left
after_left tests empty a = nothing_left
after_left tests (attribute class p) a = nothing_left
after_left tests (ref i) a = nothing_left

pub attribute_left : (fits : Pattern → Bool) (n : Name) (p : Pattern) → is_alone p ≡ true → IsUnder p (attribute_by fits n p)
attribute_left fits n (attribute class p) a = if_left (has_attribute_name class n && fits p) empty empty_left
attribute_left fits n (one_or_more p) a =
    let w = repeated_parts p a in
    let more = star_left p w.0 (itself w.1) in
    either (λ x. IsUnder p x) (is_empty (attribute_by fits n p)) (star p) (group_of (star p) (group_of (attribute_by fits n p) (star p))) more
    (plain_group (star p) (group_of (attribute_by fits n p) (star p)) w.0 more
    (plain_group (attribute_by fits n p) (star p) w.0 (attribute_left fits n p w.1) more))
attribute_left fits n (choice p q) a =
    let w = and_parts (is_alone p) (is_alone q) a in
    choice_left (attribute_by fits n p) (attribute_by fits n q)
    (wider_left (has_string_leaf q) (has_complex q) (attribute_left fits n p w.0))
    (wider_right (has_string_leaf p) (has_complex p) (attribute_left fits n q w.1))
attribute_left fits n (group p q) a =
    let w = group_parts p q a in
    choice_left (group_of (attribute_by fits n p) q) (group_of p (attribute_by fits n q))
    (as_group p q w.0 (attribute_left fits n p w.1) (itself w.2))
    (as_group p q w.0 (itself w.1) (attribute_left fits n q w.2))
attribute_left fits n (interleave p q) a =
    let w = group_parts p q a in
    choice_left (interleave_of (attribute_by fits n p) q) (interleave_of p (attribute_by fits n q))
    (as_interleave p q w.0 (attribute_left fits n p w.1) (itself w.2))
    (as_interleave p q w.0 (itself w.1) (attribute_left fits n q w.2))
attribute_left fits n not_allowed a = nothing_left
attribute_left fits n empty a = nothing_left
attribute_left fits n any_text a = nothing_left
attribute_left fits n (typed t e) a = nothing_left
attribute_left fits n (literal t v) a = nothing_left
attribute_left fits n (listed p) a = nothing_left
attribute_left fits n (ref i) a = nothing_left

pub close_left : (p : Pattern) → is_alone p ≡ true → IsUnder p (close p)
close_left (attribute class p) a = nothing_left
close_left (one_or_more p) a = let w = repeated_parts p a in more_left (close p) w.0 (close_left p w.1)
close_left (choice p q) a =
    let w = and_parts (is_alone p) (is_alone q) a in
    choice_left (close p) (close q) (wider_left (has_string_leaf q) (has_complex q) (close_left p w.0))
    (wider_right (has_string_leaf p) (has_complex p) (close_left q w.1))
close_left (group p q) a = let w = group_parts p q a in as_group p q w.0 (close_left p w.1) (close_left q w.2)
close_left (interleave p q) a = let w = group_parts p q a in as_interleave p q w.0 (close_left p w.1) (close_left q w.2)
close_left not_allowed a = itself a
close_left empty a = itself a
close_left any_text a = itself a
close_left (typed t e) a = itself a
close_left (literal t v) a = itself a
close_left (listed p) a = itself a
close_left (ref i) a = itself a

pub drop_left : (p : Pattern) → is_alone p ≡ true → IsUnder p (drop p)
drop_left (attribute class p) a = empty_left
drop_left (one_or_more p) a = let w = repeated_parts p a in more_left (drop p) w.0 (drop_left p w.1)
drop_left (choice p q) a =
    let w = and_parts (is_alone p) (is_alone q) a in
    choice_left (drop p) (drop q) (wider_left (has_string_leaf q) (has_complex q) (drop_left p w.0))
    (wider_right (has_string_leaf p) (has_complex p) (drop_left q w.1))
drop_left (group p q) a = let w = group_parts p q a in as_group p q w.0 (drop_left p w.1) (drop_left q w.2)
drop_left (interleave p q) a = let w = group_parts p q a in as_interleave p q w.0 (drop_left p w.1) (drop_left q w.2)
drop_left not_allowed a = itself a
drop_left empty a = itself a
drop_left any_text a = itself a
drop_left (typed t e) a = itself a
drop_left (literal t v) a = itself a
drop_left (listed p) a = itself a
drop_left (ref i) a = itself a

pub loosen_left : (p : Pattern) → is_alone p ≡ true → IsUnder p (loosen p)
loosen_left (typed type excepts) a = if_left (solid_tests.of_data type excepts) (typed type excepts) (itself a)
loosen_left (literal type wanted) a = if_left (solid_tests.of_value type wanted) (literal type wanted) (itself a)
loosen_left (listed p) a = if_left (solid_tests.of_list p) (listed p) (itself a)
loosen_left (one_or_more p) a = let w = repeated_parts p a in more_left (loosen p) w.0 (loosen_left p w.1)
loosen_left (choice p q) a =
    let w = and_parts (is_alone p) (is_alone q) a in
    choice_left (loosen p) (loosen q) (wider_left (has_string_leaf q) (has_complex q) (loosen_left p w.0))
    (wider_right (has_string_leaf p) (has_complex p) (loosen_left q w.1))
loosen_left (group p q) a = let w = group_parts p q a in as_group p q w.0 (loosen_left p w.1) (loosen_left q w.2)
loosen_left (interleave p q) a = let w = group_parts p q a in as_interleave p q w.0 (loosen_left p w.1) (loosen_left q w.2)
loosen_left not_allowed a = itself a
loosen_left empty a = itself a
loosen_left any_text a = itself a
loosen_left (attribute class p) a = itself a
loosen_left (ref i) a = itself a

or_empty : {p : Pattern} → is_alone p ≡ true → IsUnder p (choice p empty)
or_empty {p = p} a = both_left p empty (itself a) empty_left

pub ending_left : (p : Pattern) → is_alone p ≡ true → IsUnder p (ending p)
ending_left not_allowed a = nothing_left
ending_left empty a = empty_left
ending_left any_text a = itself a
ending_left (typed t e) a = or_empty a
ending_left (literal t v) a = or_empty a
ending_left (listed p) a = or_empty a
ending_left (attribute class p) a = nothing_left
ending_left (ref i) a = or_empty a
ending_left (one_or_more p) a =
    let w = repeated_parts p a in
    plain_group (ending p) (star p) w.0 (ending_left p w.1) (star_left p w.0 (itself w.1))
ending_left (choice p q) a =
    let w = and_parts (is_alone p) (is_alone q) a in
    choice_left (ending p) (ending q) (wider_left (has_string_leaf q) (has_complex q) (ending_left p w.0))
    (wider_right (has_string_leaf p) (has_complex p) (ending_left q w.1))
ending_left (group p q) a =
    let w = group_parts p q a in
    choice_left (group_of (ending p) q) (ending q) (as_group p q w.0 (ending_left p w.1) (itself w.2))
    (wider_right (has_string_leaf p) (has_complex p) (ending_left q w.2))
ending_left (interleave p q) a =
    let w = group_parts p q a in as_interleave p q w.0 (ending_left p w.1) (ending_left q w.2)
