-- Entering an element takes off one event.
use Rattle.std.proofs.Common.{◌≡◌, ℕ, List, [], ◌∷◌, ◌++◌, map, Bool, true, false, ◌==◌, refl, ap, subst, inl, inr, ◌⊎◌, ⊎_elim, Option, Some, None, arith}
use Rattle.std.specs.Prelude.{slice_get, if◌then◌else◌}
use Rattle.std.proofs.lemmas.Bool.Decides.{nat_tests}
use Rattle.nx_base.specs.declared.name.Name.{Name}
use Rattle.nx_base.specs.Trees.{Attribute, Children, nil, string, element, without_blanks, Event, Enter, TagEnd, Leave, children_flat, attributes_flat}
use Rattle.rng_core.specs.Names.{has_name}
use Rattle.rng_core.specs.Patterns.{Pattern, Definition, not_allowed, empty, any_text, typed, literal, listed, attribute, ref, one_or_more, choice, group, interleave}
use Rattle.rng_core.specs.Matching.{Matches, by_element, by_first, by_second}
use Rattle.rng_kept.specs.SmallPatterns.{choice_of, star}
use Rattle.rng_kept.specs.Openings.{Opening, added, joined, then_group, then_interleave, under_interleave, open_definition, opens}
use Rattle.rng_residual.specs.Openings.{Opened, opened_first, opened_later}
use Rattle.rng_kept.specs.Residuals.{Outer, document, inside, one_of, Residual, MatchesWeakly, TakesChildren, strictly, loosely, voidly, TakesOuter, at_document, at_inside, at_this, at_other, TakesWay, in_start_tag, Takes, by_this, by_later}
use Rattle.rng_kept.specs.Entering.{content_in, content_of, rest_at, has_number, others, tag_at_top, tag_of_both, tag_of_loose, enter_outer}
use Rattle.rng_residual.proofs.SmallPatterns.{or_same, by_test, never_no, or_true}
use Rattle.rng_residual.proofs.Merging.{with_ways_in, with_ways_out}
use Rattle.rng_residual.proofs.Openings.{opens_in, opens_out, num_same}

-- ---- the numbers of openings name definitions that have the name

pub record IsNamed (g : List Definition) (n : Name) (i : ℕ) : Type 0 where
  pub definition : Definition
  pub is : slice_get g i ≡ Some definition
  pub has : has_name definition.class n ≡ true

pub data AreNamed (g : List Definition) (n : Name) : List Opening → Type 0 where
  none_named : AreNamed g n []
  one_named : {o : Opening} {os : List Opening} → IsNamed g n o.number → AreNamed g n os → AreNamed g n (o ∷ os)

pub named_first : {g : List Definition} {n : Name} {o : Opening} {os : List Opening} → AreNamed g n (o ∷ os) → IsNamed g n o.number × AreNamed g n os
named_first (one_named h k) = (h, k)

added_named : {g : List Definition} {n : Name} (i : ℕ) (r : Pattern) (os : List Opening) → IsNamed g n i → AreNamed g n os → AreNamed g n (added i r os)
added_named i r [] h k = one_named h none_named
added_named {g = g} {n = n} i r (o ∷ os) h k =
    let w = named_first k in
    by_test (λ xs. AreNamed g n xs) (i == o.number) _ _ (λ e. one_named w.0 w.1) (λ _. one_named w.0 (added_named i r os h w.1))

pub joined_named : {g : List Definition} {n : Name} (os ps : List Opening) → AreNamed g n os → AreNamed g n ps → AreNamed g n (joined os ps)
joined_named os [] h k = h
joined_named os (p ∷ ps) h k = let w = named_first k in joined_named (added p.number p.rest os) ps (added_named p.number p.rest os w.0 h) w.1

pub group_named : {g : List Definition} {n : Name} (q : Pattern) (os : List Opening) → AreNamed g n os → AreNamed g n (map (then_group q) os)
group_named q [] h = none_named
group_named q (o ∷ os) h = let w = named_first h in one_named w.0 (group_named q os w.1)

pub left_named : {g : List Definition} {n : Name} (q : Pattern) (os : List Opening) → AreNamed g n os → AreNamed g n (map (then_interleave q) os)
left_named q [] h = none_named
left_named q (o ∷ os) h = let w = named_first h in one_named w.0 (left_named q os w.1)

pub right_named : {g : List Definition} {n : Name} (q : Pattern) (os : List Opening) → AreNamed g n os → AreNamed g n (map (under_interleave q) os)
right_named q [] h = none_named
right_named q (o ∷ os) h = let w = named_first h in one_named w.0 (right_named q os w.1)

if_named : {g : List Definition} {n : Name} (b : Bool) (os : List Opening) → AreNamed g n os → AreNamed g n (if b then os else [])
if_named true os h = h
if_named false os h = none_named

pub definition_named : {g : List Definition} {n : Name} (i : ℕ) (o : Option Definition) → slice_get g i ≡ o → AreNamed g n (open_definition o n i)
definition_named i None e = none_named
definition_named {g = g} {n = n} i (Some d) e =
    by_test (λ xs. AreNamed g n xs) (has_name d.class n) _ _ (λ h. one_named (record { definition = d; is = e; has = h }) none_named) (λ _. none_named)

pub opens_named : {g : List Definition} {n : Name} (p : Pattern) → AreNamed g n (opens g n p)
opens_named {g = g} (ref i) = definition_named i (slice_get g i) refl
opens_named {g = g} {n = n} (one_or_more p) = group_named (star p) (opens g n p) (opens_named p)
opens_named {g = g} {n = n} (choice p q) = joined_named (opens g n p) (opens g n q) (opens_named p) (opens_named q)
opens_named {g = g} {n = n} (group p q) = joined_named _ _ (group_named q (opens g n p) (opens_named p)) (if_named _ (opens g n q) (opens_named q))
opens_named {g = g} {n = n} (interleave p q) = joined_named _ _ (left_named q (opens g n p) (opens_named p)) (right_named p (opens g n q) (opens_named q))
opens_named not_allowed = none_named
opens_named empty = none_named
opens_named any_text = none_named
opens_named (typed t e) = none_named
opens_named (literal t v) = none_named
opens_named (listed p) = none_named
opens_named (attribute c p) = none_named

-- ---- an element by its definition, and by its content

element_out : {g : List Definition} {n : Name} {a : List Attribute} {k : Children} (i : ℕ) → Matches g (ref i) [] (element n a k nil) → MatchesWeakly g (content_of g i) a k
element_out i (by_element {k' = k'} e h w m) = rw e (record { children = k'; weakly = w; matched = m })

pub element_in : {g : List Definition} {n : Name} {a : List Attribute} {k : Children} (i : ℕ) → IsNamed g n i → MatchesWeakly g (content_of g i) a k → Matches g (ref i) [] (element n a k nil)
element_in {g = g} {n = n} {a = a} {k = k} i d w =
    let P : Option Definition → Type 0 = λ o. MatchesWeakly g (content_in o) a k in
    let v : MatchesWeakly g d.definition.content a k = subst P d.is w in
    by_element d.is d.has v.weakly v.matched

-- ---- openings, by their numbers

record At (g : List Definition) (n : Name) (a : List Attribute) (k : Children) (os : List Opening) (r : Children) : Type 0 where
  number : ℕ
  here : Matches g (ref number) [] (element n a k nil)
  rest : Matches g (rest_at number os) [] r

same_num : (i : ℕ) → (i == i) ≡ true
same_num i = grind (arith, nat_tests)

rest_first : {g : List Definition} (o : Opening) (os : List Opening) {r : Children} → Matches g o.rest [] r → Matches g (rest_at o.number (o ∷ os)) [] r
rest_first {g = g} o os m = rw (same_num o.number) ((or_same g o.rest (rest_at o.number os)).from (by_first m))

rest_later : {g : List Definition} (i : ℕ) (o : Opening) (os : List Opening) {r : Children} → Matches g (rest_at i os) [] r → Matches g (rest_at i (o ∷ os)) [] r
rest_later {g = g} i o os {r = r} m =
    by_test (λ q. Matches g q [] r) (i == o.number) _ _ (λ _. (or_same g o.rest (rest_at i os)).from (by_second m)) (λ _. m)

at_of : {g : List Definition} {n : Name} {a : List Attribute} {k : Children} (os : List Opening) {r : Children} → Opened g n a k os r → At g n a k os r
at_of [] h = elim h [ ]
at_of (o ∷ os) (opened_first e m) = record { number = o.number; here = e; rest = rest_first o os m }
at_of (o ∷ os) (opened_later h) = let w = at_of os h in record { number = w.number; here = w.here; rest = rest_later w.number o os w.rest }

sides : {g : List Definition} {p q : Pattern} {a : List Attribute} {c : Children} → Matches g (choice p q) a c → Matches g p a c ⊎ Matches g q a c
sides (by_first m) = inl m
sides (by_second m) = inr m

pub opened_at : {g : List Definition} {n : Name} {a : List Attribute} {k : Children} (i : ℕ) (os : List Opening) {r : Children} → Matches g (ref i) [] (element n a k nil) → Matches g (rest_at i os) [] r → Opened g n a k os r
opened_at i [] e m = never_no m
opened_at {g = g} {n = n} {a = a} {k = k} i (o ∷ os) {r = r} e m = go (i == o.number) refl m (λ l. opened_at i os e l)
  where
    go : (b : Bool) → (i == o.number) ≡ b → Matches g (if b then choice_of o.rest (rest_at i os) else rest_at i os) [] r →
        (Matches g (rest_at i os) [] r → Opened g n a k os r) → Opened g n a k (o ∷ os) r
    go true t m more =
        ⊎_elim (λ l. opened_first (rw (← num_same i o.number t) e) l) (λ l. opened_later (more l)) (sides ((or_same g o.rest (rest_at i os)).to m))
    go false t m more = opened_later (more m)

-- ---- events that begin with an element

pub record Entered (n : Name) (c : Children) (s z : List Event) : Type 0 where
  pub attributes : List Attribute
  pub children : Children
  pub rest : Children
  pub is : c ≡ element n attributes children rest
  pub events : s ≡ attributes_flat attributes (TagEnd ∷ children_flat children (Leave ∷ children_flat rest z))

pub entered : (n : Name) (c : Children) (s z : List Event) → (Enter n ∷ s ≡ z → ⊥) → Enter n ∷ s ≡ children_flat c z → Entered n c s z
entered n nil s z other e = absurd (other e)
entered n (string t r) s z other e = cc
entered n (element m a k r) s z other e =
    let same : n ≡ m = cc in
    record { attributes = a; children = k; rest = r; is = rw same refl; events = cc }

pub first_takes : {g : List Definition} (xs ys : Residual) {s : List Event} → Takes g xs s → Takes g (xs ++ ys) s
first_takes (x ∷ xs) ys (by_this h) = by_this h
first_takes (x ∷ xs) ys (by_later h) = by_later (first_takes xs ys h)
first_takes [] ys h = elim h [ ]

pub second_takes : {g : List Definition} (xs ys : Residual) {s : List Event} → Takes g ys s → Takes g (xs ++ ys) s
second_takes [] ys h = h
second_takes (x ∷ xs) ys h = by_later (second_takes xs ys h)

pub either_takes : {g : List Definition} (xs ys : Residual) {s : List Event} → Takes g (xs ++ ys) s → Takes g xs s ⊎ Takes g ys s
either_takes [] ys h = inr h
either_takes (x ∷ xs) ys (by_this h) = inl (by_this h)
either_takes (x ∷ xs) ys (by_later h) = ⊎_elim (λ l. inl (by_later l)) (λ l. inr l) (either_takes xs ys h)

module _ {g : List Definition} {n : Name} {a : List Attribute} {k : Children} where
  pub top_in : (os : List Opening) {r : Children} → Opened g n a k os r → Takes g (map (tag_at_top g) os) (attributes_flat a (TagEnd ∷ children_flat k (Leave ∷ children_flat r [])))
  top_in [] h = elim h [ ]
  top_in (o ∷ os) {r = r} (opened_first e m) = by_this (in_start_tag a k _ refl (element_out o.number e) (at_document r refl m))
  top_in (o ∷ os) (opened_later h) = by_later (top_in os h)

  -- of both kinds of children
  pub both_in : (loose : List Opening) (outer : Outer) (rest : List Event) → TakesOuter g outer rest → (os : List Opening) {r : Children} → Opened g n a k os r →
      Takes g (map (tag_of_both g loose outer) os) (attributes_flat a (TagEnd ∷ children_flat k (Leave ∷ children_flat r (Leave ∷ rest))))
  both_in loose outer rest t [] h = elim h [ ]
  both_in loose outer rest t (o ∷ os) {r = r} (opened_first e m) = by_this (in_start_tag a k _ refl (element_out o.number e) (at_inside r rest refl (strictly m) t))
  both_in loose outer rest t (o ∷ os) (opened_later h) = by_later (both_in loose outer rest t os h)

  -- by an opening of the loose ones whose number is one of the strict ones
  shared_in : (loose : List Opening) (outer : Outer) (rest : List Event) → TakesOuter g outer rest → (i : ℕ) (os : List Opening) (r : Children) → has_number i os ≡ true →
      Matches g (ref i) [] (element n a k nil) → Matches g (rest_at i loose) [] (without_blanks r) →
      Takes g (map (tag_of_both g loose outer) os) (attributes_flat a (TagEnd ∷ children_flat k (Leave ∷ children_flat r (Leave ∷ rest))))
  shared_in loose outer rest t i [] r h e m = cc
  shared_in loose outer rest t i (o ∷ os) r h e m =
      ⊎_elim
      (λ f.
      let same = num_same i o.number f in
      by_this (in_start_tag a k _ refl (rw (← same) (element_out i e)) (at_inside r rest refl (loosely (rw (← same) m)) t)))
      (λ f. by_later (shared_in loose outer rest t i os r f e m))
      (or_true (i == o.number) (has_number i os) h)

  -- by any opening of the loose ones
  pub loose_in : (strict all : List Opening) (outer : Outer) (rest : List Event) → TakesOuter g outer rest → (os : List Opening) (r : Children) →
      ((i : ℕ) → Matches g (rest_at i os) [] (without_blanks r) → Matches g (rest_at i all) [] (without_blanks r)) → Opened g n a k os (without_blanks r) →
      Takes g (map (tag_of_both g all outer) strict ++ map (tag_of_loose g outer) (others strict os)) (attributes_flat a (TagEnd ∷ children_flat k (Leave ∷ children_flat r (Leave ∷ rest))))
  loose_in strict all outer rest t [] r up h = elim h [ ]
  loose_in strict all outer rest t (o ∷ os) r up (opened_first e m) = go (has_number o.number strict) refl
    where
      go : (b : Bool) → has_number o.number strict ≡ b →
          Takes g (map (tag_of_both g all outer) strict ++ map (tag_of_loose g outer) (if b then others strict os else o ∷ others strict os)) (attributes_flat a (TagEnd ∷ children_flat k (Leave ∷ children_flat r (Leave ∷ rest))))
      go true f = first_takes _ _ (shared_in all outer rest t o.number strict r f e (up o.number (rest_first o os m)))
      go false f = second_takes (map (tag_of_both g all outer) strict) _ (by_this (in_start_tag a k _ refl (element_out o.number e) (at_inside r rest refl (loosely m) t)))
  loose_in strict all outer rest t (o ∷ os) r up (opened_later h) = more (has_number o.number strict) (loose_in strict all outer rest t os r (λ i m. up i (rest_later i o os m)) h)
    where
      more : {s : List Event} (b : Bool) → Takes g (map (tag_of_both g all outer) strict ++ map (tag_of_loose g outer) (others strict os)) s →
          Takes g (map (tag_of_both g all outer) strict ++ map (tag_of_loose g outer) (if b then others strict os else o ∷ others strict os)) s
      more true h = h
      more false h = ⊎_elim (λ l. first_takes _ _ l) (λ l. second_takes (map (tag_of_both g all outer) strict) _ (by_later l)) (either_takes (map (tag_of_both g all outer) strict) _ h)

-- taken behind the name, where it is taken with it
pub enter_in : {g : List Definition} (n : Name) (o : Outer) (s : List Event) → TakesOuter g o (Enter n ∷ s) → Takes g (enter_outer g n o) s
enter_in {g = g} n (document p) s (at_document c e m) =
    let w = entered n c s [] (λ f. cc) e in
    let P : Children → Type 0 = λ x. Matches g p [] x in
    let h = opens_in (subst P w.is m) in
    rw w.events (top_in (opens g n p) h)
enter_in {g = g} n (inside b l v o) s (at_inside k rest e c t) =
    let w = entered n k s (Leave ∷ rest) (λ f. cc) e in
    let Q : List Event → Type 0 = λ x. Takes g (enter_outer g n (inside b l v o)) x in
    go w.rest w.is w.events c
  where
    go : {a : List Attribute} {kk : Children} (r : Children) → k ≡ element n a kk r → s ≡ attributes_flat a (TagEnd ∷ children_flat kk (Leave ∷ children_flat r (Leave ∷ rest))) →
        TakesChildren g b l v k → Takes g (enter_outer g n (inside b l v o)) s
    go r is ev (strictly m) =
        let P : Children → Type 0 = λ x. Matches g b [] x in
        rw ev (first_takes _ _ (both_in (opens g n l) o rest t (opens g n b) (opens_in (subst P is m))))
    go r is ev (loosely m) =
        let P : Children → Type 0 = λ x. Matches g l [] (without_blanks x) in
        rw ev (loose_in (opens g n b) (opens g n l) o rest t (opens g n l) r (λ i h. h) (opens_in (subst P is m)))
    go r is ev (voidly f h) = cc
enter_in {g = g} n (one_of o u) s (at_this h) = with_ways_in (enter_outer g n o) (enter_outer g n u) (inl (enter_in n o s h))
enter_in {g = g} n (one_of o u) s (at_other h) = with_ways_in (enter_outer g n o) (enter_outer g n u) (inr (enter_in n u s h))

-- ---- and back

pub record OutOfTop (g : List Definition) (n : Name) (os : List Opening) (s : List Event) : Type 0 where
  pub attributes : List Attribute
  pub children : Children
  pub rest : Children
  pub opened : Opened g n attributes children os rest
  pub events : s ≡ attributes_flat attributes (TagEnd ∷ children_flat children (Leave ∷ children_flat rest []))

pub top_out : {g : List Definition} (n : Name) (os : List Opening) {s : List Event} → AreNamed g n os → Takes g (map (tag_at_top g) os) s → OutOfTop g n os s
top_out n [] d h = elim h [ ]
top_out n (o ∷ os) d (by_this (in_start_tag a k rest e w (at_document r f m))) =
    record { attributes = a; children = k; rest = r; opened = opened_first (element_in o.number (named_first d).0 w) m; events = rw (← f) e }
top_out n (o ∷ os) d (by_later h) =
    let w = top_out n os (named_first d).1 h in
    record { attributes = w.attributes; children = w.children; rest = w.rest; opened = opened_later w.opened; events = w.events }

pub enter_out_top : {g : List Definition} (n : Name) (p : Pattern) (s : List Event) → Takes g (enter_outer g n (document p)) s → TakesOuter g (document p) (Enter n ∷ s)
enter_out_top {g = g} n p s h =
    let w = top_out n (opens g n p) (opens_named p) h in
    at_document (element n w.attributes w.children w.rest) (ap (λ (x : List Event). Enter n ∷ x) w.events) (opens_out p w.opened)

-- ---- and back, inside of an element

record OutOfInside (g : List Definition) (n : Name) (b l : Pattern) (outer : Outer) (s : List Event) : Type 0 where
  attributes : List Attribute
  children : Children
  rest : Children
  after : List Event
  events : s ≡ attributes_flat attributes (TagEnd ∷ children_flat children (Leave ∷ children_flat rest (Leave ∷ after)))
  taken : TakesChildren g b l false (element n attributes children rest)
  outside : TakesOuter g outer after

both_out : {g : List Definition} (n : Name) (b l : Pattern) (outer : Outer) (os : List Opening) {s : List Event} → AreNamed g n os →
    ((a : List Attribute) (k r : Children) → Opened g n a k os r → Matches g b [] (element n a k r)) →
    Takes g (map (tag_of_both g (opens g n l) outer) os) s → OutOfInside g n b l outer s
both_out n b l outer [] d f h = elim h [ ]
both_out {g = g} n b l outer (o ∷ os) d f (by_this (in_start_tag a k rest e w (at_inside r after ev c t))) =
    record {
      attributes = a;
      children = k;
      rest = r;
      after = after;
      events = rw (← ev) e;
      outside = t;
      taken = go c;
    }
  where
    go : TakesChildren g o.rest (rest_at o.number (opens g n l)) false r → TakesChildren g b l false (element n a k r)
    go (strictly m) = strictly (f a k r (opened_first (element_in o.number (named_first d).0 w) m))
    go (loosely m) = loosely (opens_out l (opened_at o.number (opens g n l) (element_in o.number (named_first d).0 w) m))
    go (voidly x y) = cc
both_out n b l outer (o ∷ os) d f (by_later h) = both_out n b l outer os (named_first d).1 (λ a k r x. f a k r (opened_later x)) h

loose_out : {g : List Definition} (n : Name) (b l : Pattern) (outer : Outer) (strict os : List Opening) {s : List Event} → AreNamed g n os →
    ((a : List Attribute) (k r : Children) → Opened g n a k os r → Matches g l [] (element n a k r)) →
    Takes g (map (tag_of_loose g outer) (others strict os)) s → OutOfInside g n b l outer s
loose_out n b l outer strict [] d f h = elim h [ ]
loose_out {g = g} n b l outer strict (o ∷ os) {s = s} d f h = go (has_number o.number strict) h (λ x. loose_out n b l outer strict os (named_first d).1 (λ a k r y. f a k r (opened_later y)) x)
  where
    this : {t : List Event} → TakesWay g (tag_of_loose g outer o) t → OutOfInside g n b l outer t
    this (in_start_tag a k rest e w (at_inside r after ev c t)) =
        record {
          attributes = a;
          children = k;
          rest = r;
          after = after;
          events = rw (← ev) e;
          outside = t;
          taken = elim c [
            | strictly m ↦ never_no m
            | loosely m ↦ loosely (f a k (without_blanks r) (opened_first (element_in o.number (named_first d).0 w) m))
            | voidly x y ↦ cc
          ];
        }

    front : {t : List Event} {ws : Residual} → Takes g (tag_of_loose g outer o ∷ ws) t → (Takes g ws t → OutOfInside g n b l outer t) → OutOfInside g n b l outer t
    front (by_this x) more = this x
    front (by_later x) more = more x

    go : (c : Bool) → Takes g (map (tag_of_loose g outer) (if c then others strict os else o ∷ others strict os)) s → (Takes g (map (tag_of_loose g outer) (others strict os)) s → OutOfInside g n b l outer s) → OutOfInside g n b l outer s
    go true x more = more x
    go false x more = front x more

pub enter_out : {g : List Definition} (n : Name) (o : Outer) (s : List Event) → Takes g (enter_outer g n o) s → TakesOuter g o (Enter n ∷ s)
enter_out n (document p) s h = enter_out_top n p s h
enter_out {g = g} n (inside b l v o) s h =
    let w : OutOfInside g n b l o s =
    ⊎_elim
    (λ x. both_out n b l o (opens g n b) (opens_named b) (λ a k r y. opens_out b y) x)
    (λ x. loose_out n b l o (opens g n b) (opens g n l) (opens_named l) (λ a k r y. opens_out l y) x)
    (either_takes (map (tag_of_both g (opens g n l) o) (opens g n b)) _ h) in
    at_inside (element n w.attributes w.children w.rest) w.after (ap (λ (x : List Event). Enter n ∷ x) w.events) (widened w.taken) w.outside
  where
    widened : {k : Children} → TakesChildren g b l false k → TakesChildren g b l v k
    widened (strictly m) = strictly m
    widened (loosely m) = loosely m
    widened (voidly x y) = cc
enter_out {g = g} n (one_of o u) s h =
    ⊎_elim (λ x. at_this (enter_out n o s x)) (λ x. at_other (enter_out n u s x)) (with_ways_out (enter_outer g n o) (enter_outer g n u) h)
