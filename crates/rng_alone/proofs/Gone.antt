-- Behind a string, and behind an element, no string is left of what stands alone; and where no child has to come, that is told.
use Rattle.std.proofs.Common.{◌≡◌, ℕ, List, [], ◌∷◌, map, Bool, true, false, refl, sym, ap, ◌∙◌, ◌⊎◌, subst, inl, inr}
use Rattle.std.specs.Prelude.{◌||◌, ◌==◌, if◌then◌else◌, Option, Some, None, slice_get}
use Rattle.std.specs.List.{AllByRecursion}
use Rattle.std.proofs.lemmas.Bool.{and_parts, and_from, or_parts, or_from, or_left, or_cases, cases_Bool, false≢true}
use Rattle.nx_base.specs.declared.name.Name.{Name}
use Rattle.rng_core.specs.Matching.{by_first, by_second, by_group, by_interleave, no_attribute, then_second, no_child}
use Rattle.rng_core.specs.Names.{has_name}
use Rattle.rng_core.specs.Patterns.{Pattern, Definition, not_allowed, empty, any_text, typed, literal, listed, attribute, ref, one_or_more, choice, group, interleave}
use Rattle.rng_kept.specs.Clean.{Clean, clean_empty, clean_text, clean_data, clean_value, clean_list, clean_attribute, clean_ref, clean_one_or_more, clean_choice, clean_group, clean_interleave}
use Rattle.rng_kept.specs.Entering.{rest_at}
use Rattle.rng_kept.specs.Nullable.{nullable}
use Rattle.rng_kept.specs.Openings.{Opening, opening, added, joined, then_group, then_interleave, under_interleave, open_definition, opens}
use Rattle.rng_kept.specs.Skipping.{ending, skip_opens}
use Rattle.rng_kept.specs.SmallPatterns.{is_not_allowed, choice_of, group_of, interleave_of, star}
use Rattle.rng_kept.specs.Strings.{Tests, after_by}
use Rattle.rng_residual.proofs.Nullable.{nullable_in, nullable_out}
use Rattle.rng_residual.proofs.SmallPatterns.{or_same, seq_same, mix_same}
use Rattle.rng_names.proofs.Used.{either, choice_holds, group_holds, interleave_holds}
use Rattle.rng_fill.specs.Fillable.{has_string_leaf}
use Rattle.rng_alone.specs.Alone.{has_complex, go_beside, are_beside, is_alone}
use Rattle.rng_alone.specs.Left.{some_passes}
use Rattle.rng_alone.proofs.Under.{Under, IsUnder, itself, empty_left, repeated_parts, group_parts, star_left, ending_left, choice_left, as_group, as_interleave, wider_left, wider_right, plain_group}

-- ---- no string passes where there is none

pub none_passes : (tests : Tests) (p : Pattern) → has_string_leaf p ≡ false → some_passes tests p ≡ false
none_passes tests (typed t e) h = absurd (false≢true (sym h))
none_passes tests (literal t v) h = absurd (false≢true (sym h))
none_passes tests (listed p) h = absurd (false≢true (sym h))
none_passes tests (one_or_more p) h = none_passes tests p h
none_passes tests (choice p q) h =
    let o = or_parts (has_string_leaf p) (has_string_leaf q) h in
    or_from (some_passes tests p) (some_passes tests q) (none_passes tests p o.0) (none_passes tests q o.1)
none_passes tests (group p q) h =
    let o = or_parts (has_string_leaf p) (has_string_leaf q) h in
    or_from (some_passes tests p) (some_passes tests q) (none_passes tests p o.0) (none_passes tests q o.1)
none_passes tests (interleave p q) h =
    let o = or_parts (has_string_leaf p) (has_string_leaf q) h in
    or_from (some_passes tests p) (some_passes tests q) (none_passes tests p o.0) (none_passes tests q o.1)
none_passes tests not_allowed h = refl
none_passes tests empty h = refl
none_passes tests any_text h = refl
none_passes tests (attribute class p) h = refl
none_passes tests (ref i) h = refl

pub choice_passes : (tests : Tests) (p q : Pattern) → some_passes tests p ≡ false → some_passes tests q ≡ false
    → some_passes tests (choice_of p q) ≡ false
choice_passes tests p q h k =
    choice_holds (λ x. some_passes tests x ≡ false) refl (λ a b u v. or_from (some_passes tests a) (some_passes tests b) u v) p q h
    (λ a b u. or_parts (some_passes tests a) (some_passes tests b) u) k

-- ---- what stands beside a string

-- beside a string neither a string nor an element or text stands, and beside one of the second side none of the first
pub beside_string : (s c t d : Bool) → go_beside s c t d ≡ true → s ≡ true → (t ≡ false) × (d ≡ false)
beside_string true c false false h is = (refl, refl)
beside_string true c true d h is = absurd (false≢true h)
beside_string true c false true h is = absurd (false≢true h)
beside_string false c t d h is = absurd (false≢true is)

pub string_beside : (s c t d : Bool) → go_beside s c t d ≡ true → t ≡ true → (s ≡ false) × (c ≡ false)
string_beside s c false d h is = absurd (false≢true is)
string_beside true c true d h is = absurd (false≢true h)
string_beside false true true d h is = absurd (false≢true h)
string_beside false false true d h is = (refl, refl)

-- ---- no string is left

abbrev HasNone : Pattern → Type 0
HasNone p = has_string_leaf p ≡ false

both_none : (p q : Pattern) → HasNone p → HasNone q → (has_string_leaf p || has_string_leaf q) ≡ false
both_none p q h k = or_from (has_string_leaf p) (has_string_leaf q) h k

pub choice_none : (p q : Pattern) → HasNone p → HasNone q → HasNone (choice_of p q)
choice_none p q h k =
    choice_holds (λ x. HasNone x) refl (λ a b u v. both_none a b u v) p q h (λ a b u. or_parts (has_string_leaf a) (has_string_leaf b) u) k

group_none : (p q : Pattern) → HasNone p → HasNone q → HasNone (group_of p q)
group_none p q h k = group_holds (λ x. HasNone x) refl p q h k (both_none p q h k)

interleave_none : (p q : Pattern) → HasNone p → HasNone q → HasNone (interleave_of p q)
interleave_none p q h k = interleave_holds (λ x. HasNone x) refl p q h k (both_none p q h k)

if_none : (b : Bool) (p : Pattern) → HasNone p → HasNone (if b then p else not_allowed)
if_none true p h = h
if_none false p h = refl

dead : (b : Bool) (x : Pattern) → (if b || true then not_allowed else x) ≡ not_allowed
dead true x = refl
dead false x = refl

interleave_not_allowed : (p : Pattern) → interleave_of p not_allowed ≡ not_allowed
interleave_not_allowed p = dead (is_not_allowed p) _

-- of what has neither strings nor text nothing is left behind a string
stringless : (tests : Tests) (p : Pattern) → HasNone p → has_complex p ≡ false → after_by tests p ≡ not_allowed
stringless tests (typed t e) h c = absurd (false≢true (sym h))
stringless tests (literal t v) h c = absurd (false≢true (sym h))
stringless tests (listed p) h c = absurd (false≢true (sym h))
stringless tests any_text h c = absurd (false≢true (sym c))
stringless tests (ref i) h c = refl
stringless tests (one_or_more p) h c = rw (stringless tests p h c) refl
stringless tests (choice p q) h c =
    let o = or_parts (has_string_leaf p) (has_string_leaf q) h in
    let e = or_parts (has_complex p) (has_complex q) c in
    rw (stringless tests p o.0 e.0, stringless tests q o.1 e.1) refl
stringless tests (group p q) h c =
    let o = or_parts (has_string_leaf p) (has_string_leaf q) h in
    let e = or_parts (has_complex p) (has_complex q) c in
    rw (stringless tests p o.0 e.0, stringless tests q o.1 e.1) (none_of (nullable p))
  where
    none_of : (b : Bool) → choice_of (group_of not_allowed q) (if b then not_allowed else not_allowed) ≡ not_allowed
    none_of true = refl
    none_of false = refl
stringless tests (interleave p q) h c =
    let o = or_parts (has_string_leaf p) (has_string_leaf q) h in
    let e = or_parts (has_complex p) (has_complex q) c in
    rw (stringless tests p o.0 e.0, stringless tests q o.1 e.1) (ap (λ (x : Pattern). choice_of not_allowed x) (interleave_not_allowed p))
stringless tests not_allowed h c = refl
stringless tests empty h c = refl
stringless tests (attribute class p) h c = refl

pub after_none : (tests : Tests) (p : Pattern) → is_alone p ≡ true → HasNone (after_by tests p)
after_none tests any_text a = refl
after_none tests (typed type excepts) a = if_none (tests.of_data type excepts) empty refl
after_none tests (literal type wanted) a = if_none (tests.of_value type wanted) empty refl
after_none tests (listed p) a = if_none (tests.of_list p) empty refl
after_none tests (one_or_more p) a =
    let w = repeated_parts p a in
    group_none (after_by tests p) (star p) (after_none tests p w.1) ((star_left p w.0 (itself w.1)).strings w.0)
after_none tests (choice p q) a =
    let w = and_parts (is_alone p) (is_alone q) a in
    choice_none (after_by tests p) (after_by tests q) (after_none tests p w.0) (after_none tests q w.1)
after_none tests (group p q) a =
    let w = group_parts p q a in
    choice_none (group_of (after_by tests p) q) (if nullable p then after_by tests q else not_allowed)
    (first_side w.0 (after_none tests p w.1) (cases_Bool (has_string_leaf q)))
    (if_none (nullable p) (after_by tests q) (after_none tests q w.2))
  where
    first_side : are_beside p q ≡ true → HasNone (after_by tests p) → (has_string_leaf q ≡ true) ⊎ (has_string_leaf q ≡ false)
        → HasNone (group_of (after_by tests p) q)
    first_side beside h (inl some) =
        let w = string_beside (has_string_leaf p) (has_complex p) (has_string_leaf q) (has_complex q) beside some in
        rw (stringless tests p w.0 w.1) refl
    first_side beside h (inr none) = group_none (after_by tests p) q h none
after_none tests (interleave p q) a =
    let w = group_parts p q a in
    choice_none (interleave_of (after_by tests p) q) (interleave_of p (after_by tests q))
    (first_side w.0 (after_none tests p w.1) (cases_Bool (has_string_leaf q)))
    (second_side w.0 (after_none tests q w.2) (cases_Bool (has_string_leaf p)))
  where
    first_side : are_beside p q ≡ true → HasNone (after_by tests p) → (has_string_leaf q ≡ true) ⊎ (has_string_leaf q ≡ false)
        → HasNone (interleave_of (after_by tests p) q)
    first_side beside h (inl some) =
        let w = string_beside (has_string_leaf p) (has_complex p) (has_string_leaf q) (has_complex q) beside some in
        rw (stringless tests p w.0 w.1) refl
    first_side beside h (inr none) = interleave_none (after_by tests p) q h none

    second_side : are_beside p q ≡ true → HasNone (after_by tests q) → (has_string_leaf p ≡ true) ⊎ (has_string_leaf p ≡ false)
        → HasNone (interleave_of p (after_by tests q))
    second_side beside h (inl some) =
        let w = beside_string (has_string_leaf p) (has_complex p) (has_string_leaf q) (has_complex q) beside some in
        rw (stringless tests q w.0 w.1) (subst (λ (x : Pattern). HasNone x) (sym (interleave_not_allowed p)) refl)
    second_side beside h (inr none) = interleave_none p (after_by tests q) none h
after_none tests not_allowed a = refl
after_none tests empty a = refl
after_none tests (attribute class p) a = refl
after_none tests (ref i) a = refl

-- ---- what is left by openings

-- no more than stands in a pattern, and no string
abbrev pub IsBare : Pattern → Pattern → Type 0
IsBare p left = IsUnder p left × HasNone left

abbrev pub Rests : (Pattern → Type 0) → List Opening → Type 0
Rests P os = AllByRecursion (λ (o : Opening). P o.rest) os

module _ (P : Pattern → Type 0) (both : (p q : Pattern) → P p → P q → P (choice_of p q)) where
  added_rests : (i : ℕ) (r : Pattern) (os : List Opening) → P r → Rests P os → Rests P (added i r os)
  added_rests i r [] h a = (h, tt)
  added_rests i r (o ∷ os) h a =
      either (λ (x : List Opening). Rests P x) (i == o.number) (opening o.number (choice_of o.rest r) ∷ os) (o ∷ added i r os)
      (both o.rest r a.0 h, a.1) (a.0, added_rests i r os h a.1)

  pub joined_rests : (os ps : List Opening) → Rests P os → Rests P ps → Rests P (joined os ps)
  joined_rests os [] a b = a
  joined_rests os (p ∷ ps) a b = joined_rests (added p.number p.rest os) ps (added_rests p.number p.rest os b.0 a) b.1

  pub rest_at_is : P not_allowed → (i : ℕ) (os : List Opening) → Rests P os → P (rest_at i os)
  rest_at_is none i [] a = none
  rest_at_is none i (o ∷ os) a =
      either P (i == o.number) (choice_of o.rest (rest_at i os)) (rest_at i os) (both o.rest (rest_at i os) a.0 (rest_at_is none i os a.1))
      (rest_at_is none i os a.1)

mapped_rests : (P Q : Pattern → Type 0) (f : Opening → Opening) → ((o : Opening) → P o.rest → Q (f o).rest) → (os : List Opening)
    → Rests P os → Rests Q (map f os)
mapped_rests P Q f step [] a = tt
mapped_rests P Q f step (o ∷ os) a = (step o a.0, mapped_rests P Q f step os a.1)

wider_rests : (P Q : Pattern → Type 0) → ((x : Pattern) → P x → Q x) → (os : List Opening) → Rests P os → Rests Q os
wider_rests P Q step [] a = tt
wider_rests P Q step (o ∷ os) a = (step o.rest a.0, wider_rests P Q step os a.1)

some_rests : (P : Pattern → Type 0) (b : Bool) (os : List Opening) → Rests P os → Rests P (if b then os else [])
some_rests P b os a = either (λ (x : List Opening). Rests P x) b os [] a tt

choice_bare : {s c : Bool} (p q : Pattern) → Under s c p × HasNone p → Under s c q × HasNone q → Under s c (choice_of p q) × HasNone (choice_of p q)
choice_bare p q h k = (choice_left p q h.0 k.0, choice_none p q h.1 k.1)

definition_bare : (s c : Bool) (o : Option Definition) (n : Name) (i : ℕ) → Rests (λ x. Under s c x × HasNone x) (open_definition o n i)
definition_bare s c None n i = tt
definition_bare s c (Some d) n i =
    either (λ (x : List Opening). Rests (λ y. Under s c y × HasNone y) x) (has_name d.class n) (opening i empty ∷ []) []
    ((empty_left, refl), tt) tt

module _ (g : List Definition) (n : Name) where
  elementless : (p : Pattern) → has_complex p ≡ false → opens g n p ≡ []
  elementless (ref i) h = absurd (false≢true (sym h))
  elementless any_text h = absurd (false≢true (sym h))
  elementless (one_or_more p) h = rw (elementless p h) refl
  elementless (choice p q) h =
      let o = or_parts (has_complex p) (has_complex q) h in rw (elementless p o.0, elementless q o.1) refl
  elementless (group p q) h =
      let o = or_parts (has_complex p) (has_complex q) h in rw (elementless p o.0, elementless q o.1) (none_of (nullable p))
    where
      none_of : (b : Bool) → joined [] (if b then [] else []) ≡ []
      none_of true = refl
      none_of false = refl
  elementless (interleave p q) h =
      let o = or_parts (has_complex p) (has_complex q) h in rw (elementless p o.0, elementless q o.1) refl
  elementless not_allowed h = refl
  elementless empty h = refl
  elementless (typed t e) h = refl
  elementless (literal t v) h = refl
  elementless (listed p) h = refl
  elementless (attribute class p) h = refl

  elementless_skip : (p : Pattern) → has_complex p ≡ false → skip_opens g n p ≡ []
  elementless_skip (ref i) h = absurd (false≢true (sym h))
  elementless_skip any_text h = absurd (false≢true (sym h))
  elementless_skip (one_or_more p) h = rw (elementless_skip p h) refl
  elementless_skip (choice p q) h =
      let o = or_parts (has_complex p) (has_complex q) h in rw (elementless_skip p o.0, elementless_skip q o.1) refl
  elementless_skip (group p q) h =
      let o = or_parts (has_complex p) (has_complex q) h in rw (elementless_skip p o.0, elementless_skip q o.1) refl
  elementless_skip (interleave p q) h =
      let o = or_parts (has_complex p) (has_complex q) h in rw (elementless_skip p o.0, elementless_skip q o.1) refl
  elementless_skip not_allowed h = refl
  elementless_skip empty h = refl
  elementless_skip (typed t e) h = refl
  elementless_skip (literal t v) h = refl
  elementless_skip (listed p) h = refl
  elementless_skip (attribute class p) h = refl

-- the openings of one side of a group or an interleave, with what is left of the other side, which has no string where they are any
module _ (p q : Pattern) (beside : are_beside p q ≡ true) where
  none_opened : (P : Pattern → Type 0) (f : Opening → Opening) (os : List Opening) → os ≡ [] → Rests P (map f os)
  none_opened P f os is = rw is tt

  -- of the first side, with the second side behind it or beside it
  module _ (left : Pattern) (under : IsUnder q left) (os : List Opening) (bare : Rests (IsBare p) os)
      (empties : has_complex p ≡ false → os ≡ []) where
    pub first_grouped : Rests (IsBare (group p q)) (map (then_group left) os)
    first_grouped = go (cases_Bool (has_string_leaf q))
      where
        go : (has_string_leaf q ≡ true) ⊎ (has_string_leaf q ≡ false) → Rests (IsBare (group p q)) (map (then_group left) os)
        go (inl some) =
            none_opened (IsBare (group p q)) (then_group left) os
            (empties (string_beside (has_string_leaf p) (has_complex p) (has_string_leaf q) (has_complex q) beside some).1)
        go (inr none) =
            mapped_rests (IsBare p) (IsBare (group p q)) (then_group left)
            (λ o h. (as_group p q beside h.0 under, group_none o.rest left h.1 (under.strings none))) os bare

    pub first_mixed : Rests (IsBare (interleave p q)) (map (then_interleave left) os)
    first_mixed = go (cases_Bool (has_string_leaf q))
      where
        go : (has_string_leaf q ≡ true) ⊎ (has_string_leaf q ≡ false) → Rests (IsBare (interleave p q)) (map (then_interleave left) os)
        go (inl some) =
            none_opened (IsBare (interleave p q)) (then_interleave left) os
            (empties (string_beside (has_string_leaf p) (has_complex p) (has_string_leaf q) (has_complex q) beside some).1)
        go (inr none) =
            mapped_rests (IsBare p) (IsBare (interleave p q)) (then_interleave left)
            (λ o h. (as_interleave p q beside h.0 under, interleave_none o.rest left h.1 (under.strings none))) os bare

  -- of the second side, with the first one beside it
  module _ (left : Pattern) (under : IsUnder p left) (os : List Opening) (bare : Rests (IsBare q) os)
      (empties : has_complex q ≡ false → os ≡ []) where
    pub second_mixed : Rests (IsBare (interleave p q)) (map (under_interleave left) os)
    second_mixed = go (cases_Bool (has_string_leaf p))
      where
        go : (has_string_leaf p ≡ true) ⊎ (has_string_leaf p ≡ false) → Rests (IsBare (interleave p q)) (map (under_interleave left) os)
        go (inl some) =
            none_opened (IsBare (interleave p q)) (under_interleave left) os
            (empties (beside_string (has_string_leaf p) (has_complex p) (has_string_leaf q) (has_complex q) beside some).1)
        go (inr none) =
            mapped_rests (IsBare q) (IsBare (interleave p q)) (under_interleave left)
            (λ o h. (as_interleave p q beside under h.0, interleave_none left o.rest (under.strings none) h.1)) os bare

  pub wider_bare_left : (x : Pattern) → IsBare p x → IsBare (group p q) x
  wider_bare_left x h = (wider_left (has_string_leaf q) (has_complex q) h.0, h.1)

  pub wider_bare_right : (x : Pattern) → IsBare q x → IsBare (group p q) x
  wider_bare_right x h = (wider_right (has_string_leaf p) (has_complex p) h.0, h.1)

module _ (g : List Definition) (n : Name) where
  pub opens_bare : (p : Pattern) → is_alone p ≡ true → Rests (IsBare p) (opens g n p)
  opens_bare (ref i) a = definition_bare false true (slice_get g i) n i
  opens_bare (one_or_more p) a =
      let w = repeated_parts p a in
      let more = star_left p w.0 (itself w.1) in
      mapped_rests (IsBare p) (IsBare p) (then_group (star p))
      (λ o h. (plain_group o.rest (star p) w.0 h.0 more, group_none o.rest (star p) h.1 (more.strings w.0))) (opens g n p) (opens_bare p w.1)
  opens_bare (choice p q) a =
      let w = and_parts (is_alone p) (is_alone q) a in
      joined_rests (IsBare (choice p q)) (λ x y h k. choice_bare x y h k) (opens g n p) (opens g n q)
      (wider_rests (IsBare p) (IsBare (choice p q)) (λ x h. (wider_left (has_string_leaf q) (has_complex q) h.0, h.1)) (opens g n p)
      (opens_bare p w.0))
      (wider_rests (IsBare q) (IsBare (choice p q)) (λ x h. (wider_right (has_string_leaf p) (has_complex p) h.0, h.1)) (opens g n q)
      (opens_bare q w.1))
  opens_bare (group p q) a =
      let w = group_parts p q a in
      joined_rests (IsBare (group p q)) (λ x y h k. choice_bare x y h k) (map (then_group q) (opens g n p))
      (if nullable p then opens g n q else [])
      (first_grouped p q w.0 q (itself w.2) (opens g n p) (opens_bare p w.1) (λ h. elementless g n p h))
      (some_rests (IsBare (group p q)) (nullable p) (opens g n q)
      (wider_rests (IsBare q) (IsBare (group p q)) (wider_bare_right p q w.0) (opens g n q) (opens_bare q w.2)))
  opens_bare (interleave p q) a =
      let w = group_parts p q a in
      joined_rests (IsBare (interleave p q)) (λ x y h k. choice_bare x y h k) (map (then_interleave q) (opens g n p))
      (map (under_interleave p) (opens g n q))
      (first_mixed p q w.0 q (itself w.2) (opens g n p) (opens_bare p w.1) (λ h. elementless g n p h))
      (second_mixed p q w.0 p (itself w.1) (opens g n q) (opens_bare q w.2) (λ h. elementless g n q h))
  opens_bare not_allowed a = tt
  opens_bare empty a = tt
  opens_bare any_text a = tt
  opens_bare (typed t e) a = tt
  opens_bare (literal t v) a = tt
  opens_bare (listed p) a = tt
  opens_bare (attribute class p) a = tt

  pub skip_bare : (p : Pattern) → is_alone p ≡ true → Rests (IsBare p) (skip_opens g n p)
  skip_bare (ref i) a = definition_bare false true (slice_get g i) n i
  skip_bare (one_or_more p) a =
      let w = repeated_parts p a in
      let more = star_left p w.0 (itself w.1) in
      mapped_rests (IsBare p) (IsBare p) (then_group (star p))
      (λ o h. (plain_group o.rest (star p) w.0 h.0 more, group_none o.rest (star p) h.1 (more.strings w.0))) (skip_opens g n p) (skip_bare p w.1)
  skip_bare (choice p q) a =
      let w = and_parts (is_alone p) (is_alone q) a in
      joined_rests (IsBare (choice p q)) (λ x y h k. choice_bare x y h k) (skip_opens g n p) (skip_opens g n q)
      (wider_rests (IsBare p) (IsBare (choice p q)) (λ x h. (wider_left (has_string_leaf q) (has_complex q) h.0, h.1)) (skip_opens g n p)
      (skip_bare p w.0))
      (wider_rests (IsBare q) (IsBare (choice p q)) (λ x h. (wider_right (has_string_leaf p) (has_complex p) h.0, h.1)) (skip_opens g n q)
      (skip_bare q w.1))
  skip_bare (group p q) a =
      let w = group_parts p q a in
      joined_rests (IsBare (group p q)) (λ x y h k. choice_bare x y h k) (map (then_group q) (skip_opens g n p)) (skip_opens g n q)
      (first_grouped p q w.0 q (itself w.2) (skip_opens g n p) (skip_bare p w.1) (λ h. elementless_skip g n p h))
      (wider_rests (IsBare q) (IsBare (group p q)) (wider_bare_right p q w.0) (skip_opens g n q) (skip_bare q w.2))
  skip_bare (interleave p q) a =
      let w = group_parts p q a in
      joined_rests (IsBare (interleave p q)) (λ x y h k. choice_bare x y h k) (map (then_interleave (ending q)) (skip_opens g n p))
      (map (under_interleave (ending p)) (skip_opens g n q))
      (first_mixed p q w.0 (ending q) (ending_left q w.2) (skip_opens g n p) (skip_bare p w.1) (λ h. elementless_skip g n p h))
      (second_mixed p q w.0 (ending p) (ending_left p w.1) (skip_opens g n q) (skip_bare q w.2) (λ h. elementless_skip g n q h))
  skip_bare not_allowed a = tt
  skip_bare empty a = tt
  skip_bare any_text a = tt
  skip_bare (typed t e) a = tt
  skip_bare (literal t v) a = tt
  skip_bare (listed p) a = tt
  skip_bare (attribute class p) a = tt

-- ---- where no child has to come

-- of what is clean, without attributes, strings, elements and text, nothing has to come
bare_nullable : {g : List Definition} {b : Bool} {p : Pattern} → Clean g false b p → HasNone p → has_complex p ≡ false → nullable p ≡ true
bare_nullable clean_empty h c = refl
bare_nullable clean_text h c = refl
bare_nullable (clean_data z w) h c = absurd (false≢true (sym h))
bare_nullable (clean_value z k) h c = absurd (false≢true (sym h))
bare_nullable (clean_list z f w) h c = absurd (false≢true (sym h))
bare_nullable (clean_attribute a f is o m) h c = absurd (false≢true is)
bare_nullable (clean_ref n a k d w m) h c = absurd (false≢true (sym c))
bare_nullable (clean_one_or_more k) h c = bare_nullable k h c
bare_nullable (clean_choice {p = p} {q = q} k l) h c =
    or_left (nullable p) (nullable q) (bare_nullable k (or_parts (has_string_leaf p) (has_string_leaf q) h).0 (or_parts (has_complex p) (has_complex q) c).0)
bare_nullable (clean_group {p = p} {q = q} k l) h c =
    let o = or_parts (has_string_leaf p) (has_string_leaf q) h in
    let e = or_parts (has_complex p) (has_complex q) c in
    and_from (nullable p) (nullable q) (bare_nullable k o.0 e.0) (bare_nullable l o.1 e.1)
bare_nullable (clean_interleave {p = p} {q = q} k l) h c =
    let o = or_parts (has_string_leaf p) (has_string_leaf q) h in
    let e = or_parts (has_complex p) (has_complex q) c in
    and_from (nullable p) (nullable q) (bare_nullable k o.0 e.0) (bare_nullable l o.1 e.1)

nullable_first : (p q : Pattern) → nullable p ≡ true → nullable (choice_of p q) ≡ true
nullable_first p q h = nullable_in {g = []} ((or_same [] p q).from (by_first (nullable_out p h)))

nullable_second : (p q : Pattern) → nullable q ≡ true → nullable (choice_of p q) ≡ true
nullable_second p q h = nullable_in {g = []} ((or_same [] p q).from (by_second (nullable_out q h)))

nullable_group : (p q : Pattern) → nullable p ≡ true → nullable q ≡ true → nullable (group_of p q) ≡ true
nullable_group p q h k =
    nullable_in {g = []} ((seq_same [] p q).from (by_group no_attribute then_second (nullable_out p h) (nullable_out q k)))

nullable_interleave : (p q : Pattern) → nullable p ≡ true → nullable q ≡ true → nullable (interleave_of p q) ≡ true
nullable_interleave p q h k =
    nullable_in {g = []} ((mix_same [] p q).from (by_interleave no_attribute no_child (nullable_out p h) (nullable_out q k)))

-- a string that passes stands somewhere
passing_string : (tests : Tests) (p : Pattern) → some_passes tests p ≡ true → has_string_leaf p ≡ true
passing_string tests p h = elim (cases_Bool (has_string_leaf p)) [
  | inl some ↦ some
  | inr none ↦ absurd (false≢true (sym (none_passes tests p none) ∙ h))
]

if_true : (b : Bool) → b ≡ true → nullable (if b then empty else not_allowed) ≡ true
if_true true h = refl
if_true false h = absurd (false≢true h)

-- where the only string passes, nothing has to come behind it
pub passed_all : {g : List Definition} {b : Bool} (tests : Tests) {p : Pattern} → Clean g false b p → is_alone p ≡ true
    → some_passes tests p ≡ true → nullable (after_by tests p) ≡ true
passed_all tests clean_empty a h = absurd (false≢true h)
passed_all tests clean_text a h = refl
passed_all tests (clean_data {type = type} {excepts = excepts} z w) a h = if_true (tests.of_data type excepts) h
passed_all tests (clean_value {type = type} {text = text} z k) a h = if_true (tests.of_value type text) h
passed_all tests (clean_list {p = p} z f w) a h = if_true (tests.of_list p) h
passed_all tests (clean_attribute x f is o m) a h = absurd (false≢true is)
passed_all tests (clean_ref n x k d w m) a h = absurd (false≢true h)
passed_all tests (clean_one_or_more {p = p} k) a h =
    let w = repeated_parts p a in absurd (false≢true (sym w.0 ∙ passing_string tests p h))
passed_all tests (clean_choice {p = p} {q = q} k l) a h =
    let w = and_parts (is_alone p) (is_alone q) a in
    elim (or_cases (some_passes tests p) (some_passes tests q) h) [
      | inl x ↦ nullable_first (after_by tests p) (after_by tests q) (passed_all tests k w.0 x)
      | inr y ↦ nullable_second (after_by tests p) (after_by tests q) (passed_all tests l w.1 y)
    ]
passed_all tests (clean_group {p = p} {q = q} k l) a h =
    let w = group_parts p q a in
    elim (or_cases (some_passes tests p) (some_passes tests q) h) [
      | inl x ↦
          let e = beside_string (has_string_leaf p) (has_complex p) (has_string_leaf q) (has_complex q) w.0 (passing_string tests p x) in
          nullable_first (group_of (after_by tests p) q) (if nullable p then after_by tests q else not_allowed)
          (nullable_group (after_by tests p) q (passed_all tests k w.1 x) (bare_nullable l e.0 e.1))
      | inr y ↦
          let e = string_beside (has_string_leaf p) (has_complex p) (has_string_leaf q) (has_complex q) w.0 (passing_string tests q y) in
          nullable_second (group_of (after_by tests p) q) (if nullable p then after_by tests q else not_allowed)
          (rw (bare_nullable k e.0 e.1) (passed_all tests l w.2 y))
    ]
passed_all tests (clean_interleave {p = p} {q = q} k l) a h =
    let w = group_parts p q a in
    elim (or_cases (some_passes tests p) (some_passes tests q) h) [
      | inl x ↦
          let e = beside_string (has_string_leaf p) (has_complex p) (has_string_leaf q) (has_complex q) w.0 (passing_string tests p x) in
          nullable_first (interleave_of (after_by tests p) q) (interleave_of p (after_by tests q))
          (nullable_interleave (after_by tests p) q (passed_all tests k w.1 x) (bare_nullable l e.0 e.1))
      | inr y ↦
          let e = string_beside (has_string_leaf p) (has_complex p) (has_string_leaf q) (has_complex q) w.0 (passing_string tests q y) in
          nullable_second (interleave_of (after_by tests p) q) (interleave_of p (after_by tests q))
          (nullable_interleave p (after_by tests q) (bare_nullable k e.0 e.1) (passed_all tests l w.2 y))
    ]
