-- Residuals whose strings stand alone stay so behind each call of a matcher.
use Rattle.std.proofs.Common.{◌≡◌, ℕ, List, [], ◌∷◌, ◌++◌, map, Bool, true, false, refl, sym, ◌∙◌, ◌⊎◌, inl, inr, Option, Some, None}
use Rattle.std.specs.Prelude.{slice_get, ◌||◌}
use Rattle.std.proofs.lemmas.Bool.{or_parts, cases_Bool, false≢true}
use Rattle.nx_base.specs.Trees.{Event, Enter, Att, TagEnd, Chars, Leave}
use Rattle.nx_base.specs.declared.name.Name.{Name}
use Rattle.nx_base.specs.Characters.{is_blank}
use Rattle.rng_core.specs.Patterns.{Pattern, Definition}
use Rattle.rng_kept.specs.Attributes.{value_fits, attribute_by, close, drop}
use Rattle.rng_kept.specs.Clean.{Clean}
use Rattle.rng_kept.specs.Content.{is_dead_outer, among_of, loose_after, chars_outer, any_string_outer, chars_way, any_string_way, ways_of, may_leave, leave_outer, leave_skip_outer, leave_way, leave_skip_way}
use Rattle.rng_kept.specs.Entering.{content_in, content_of, has_number, others, rest_at, tag_at_top, tag_of_both, tag_of_loose, enter_outer, skip_outer, enter_way, skip_way}
use Rattle.rng_kept.specs.Live.{IsStart, one_ref, a_choice}
use Rattle.rng_kept.specs.Lively.{IsLively, lively_in_tag, AreLively}
use Rattle.rng_kept.specs.Merging.{same_outer, is_outer_in, with_outer, either_outer, joined_outer, can_join_ways, joined_way, with_way, with_ways, stepped}
use Rattle.rng_kept.specs.Nullable.{nullable}
use Rattle.rng_kept.specs.Openings.{Opening, opens}
use Rattle.rng_kept.specs.Residuals.{Outer, document, inside, one_of, Way, among, in_tag, Residual}
use Rattle.rng_kept.specs.Skipping.{skip_opens}
use Rattle.rng_kept.specs.SmallPatterns.{is_not_allowed, choice_of}
use Rattle.rng_kept.specs.SolidStrings.{solid_tests, after_solid}
use Rattle.rng_kept.specs.Strings.{Tests, string_tests, after, after_by}
use Rattle.rng_kept.specs.Tags.{tag_of, attribute_way, any_value_way, children_of, tag_end_way, missing_way}
use Rattle.rng_residual.proofs.Alive.{lively_first}
use Rattle.rng_residual.proofs.AnyMoves.{drop_clean}
use Rattle.rng_residual.proofs.Cleaning.{fine_close}
use Rattle.rng_residual.proofs.SmallPatterns.{is_not_allowed-is}
use Rattle.rng_names.proofs.Used.{either}
use Rattle.rng_fill.specs.Fillable.{has_string_leaf}
use Rattle.rng_alone.specs.Alone.{is_alone, HaveAloneContents}
use Rattle.rng_alone.specs.Left.{some_passes, AreAloneInside, IsAloneOutside, IsAloneWay, AreAlone, MovesKeepAlone, FramesAreAlone}
use Rattle.rng_residual.specs.Moves.{behind_event}
use Rattle.rng_alone.proofs.Under.{Under, after_left, attribute_left, close_left, drop_left, loosen_left, choice_left, nothing_left}
use Rattle.rng_alone.proofs.Gone.{none_passes, choice_passes, choice_none, after_none, IsBare, Rests, rest_at_is, opens_bare, skip_bare, passed_all}

-- ---- ways that are merged

choice_alone : (p q : Pattern) → is_alone p ≡ true → is_alone q ≡ true → is_alone (choice_of p q) ≡ true
choice_alone p q a b =
    let wide : (x : Pattern) → is_alone x ≡ true → Under true true x =
    λ x h. record { strings = λ e. absurd (false≢true (sym e)); complex = λ e. absurd (false≢true (sym e)); alone = h } in
    (choice_left p q (wide p a) (wide q b)).alone

choice_inside : (b l c k : Pattern) (v w : Bool) → AreAloneInside b l v → AreAloneInside c k w
    → AreAloneInside (choice_of b c) (choice_of l k) (v || w)
choice_inside b l c k v w h i = record {
  strict = choice_alone b c h.strict i.strict;
  loose = choice_alone l k h.loose i.loose;
  some = λ e. let o = or_parts v w e in choice_passes (string_tests []) b c (h.some o.0) (i.some o.1);
}

with_outer_alone : (o u : Outer) → IsAloneOutside o → IsAloneOutside u → IsAloneOutside (with_outer o u)
with_outer_alone o u h i = either (λ (r : Outer). IsAloneOutside r) (is_outer_in u o) o (one_of o u) h (h, i)

either_alone : (o u : Outer) → IsAloneOutside o → IsAloneOutside u → IsAloneOutside (either_outer o u)
either_alone o (document p) h i = with_outer_alone o (document p) h i
either_alone o (inside b l v u) h i = with_outer_alone o (inside b l v u) h i
either_alone o (one_of u r) h i = either_alone (either_outer o u) r (either_alone o u h i.0) i.1

joined_outer_alone : (o u : Outer) → IsAloneOutside o → IsAloneOutside u → IsAloneOutside (joined_outer o u)
joined_outer_alone (document p) (document q) h i = (choice_none p q h.0 i.0, choice_alone p q h.1 i.1)
joined_outer_alone (document p) (inside b l v o) h i = h
joined_outer_alone (document p) (one_of u r) h i = h
joined_outer_alone (inside b l v o) (document q) h i = h
joined_outer_alone (inside b l v o) (one_of u r) h i = h
joined_outer_alone (inside b l v o) (inside c k w u) h i =
    either (λ (r : Outer). IsAloneOutside r) (same_outer o u) (inside (choice_of b c) (choice_of l k) (v || w) o) (inside b l v (either_outer o u))
    (choice_inside b l c k v w h.0 i.0, h.1) (h.0, either_alone o u h.1 i.1)
joined_outer_alone (one_of o u) r h i = h

joined_alone : (x w : Way) → IsAloneWay x → IsAloneWay w → IsAloneWay (joined_way x w)
joined_alone (among o) (among u) h i = joined_outer_alone o u h i
joined_alone (among o) (in_tag q u) h i = h
joined_alone (in_tag p o) (among u) h i = h
joined_alone (in_tag p o) (in_tag q u) h i = (h.0, either_alone o u h.1 i.1)

with_way_alone : (xs : Residual) (w : Way) → AreAlone xs → IsAloneWay w → AreAlone (with_way xs w)
with_way_alone [] w a h = (h, tt)
with_way_alone (x ∷ xs) w a h =
    either (λ (r : Residual). AreAlone r) (can_join_ways x w) (joined_way x w ∷ xs) (x ∷ with_way xs w)
    (joined_alone x w a.0 h, a.1) (a.0, with_way_alone xs w a.1 h)

with_ways_alone : (xs ws : Residual) → AreAlone xs → AreAlone ws → AreAlone (with_ways xs ws)
with_ways_alone xs [] a b = a
with_ways_alone xs (w ∷ ws) a b = with_ways_alone (with_way xs w) ws (with_way_alone xs w a b.0) b.1

module _ {g : List Definition} {l : List Name} where
  stepped_alone : (f : Way → Residual) → ((w : Way) → IsLively g l w → IsAloneWay w → AreAlone (f w)) → (done x : Residual) → AreAlone done
      → AreLively g l x → AreAlone x → AreAlone (stepped f done x)
  stepped_alone f step done [] d live a = d
  stepped_alone f step done (w ∷ ws) d live a =
      let h = lively_first live in
      stepped_alone f step (with_ways done (f w)) ws (with_ways_alone done (f w) d (step w h.0 a.0)) h.1 a.1

-- ---- outside of tags

among_alone : (o : Outer) → IsAloneOutside o → AreAlone (among_of o)
among_alone o h = either (λ (r : Residual). AreAlone r) (is_dead_outer o) [] (among o ∷ []) tt (h, tt)

-- behind a string
behind_inside : (tests : Tests) (b l : Pattern) → is_alone b ≡ true → is_alone l ≡ true → AreAloneInside (after_by tests b) l false
behind_inside tests b l a c = record {
  strict = (after_left tests b a).alone;
  loose = c;
  some = λ e. none_passes (string_tests []) (after_by tests b) (after_none tests b a);
}

loose_alone : (t : List ℕ) (l : Pattern) → is_alone l ≡ true → is_alone (loose_after t l) ≡ true
loose_alone t l a =
    either (λ (x : Pattern). is_alone x ≡ true) (is_blank t) l (after t l) a (after_left (string_tests t) l a).alone

charred_outer : (t : List ℕ) (o : Outer) → IsAloneOutside o → AreAlone (chars_outer t o)
charred_outer t (document p) h =
    among_alone (document (after t p)) (after_none (string_tests t) p h.1, (after_left (string_tests t) p h.1).alone)
charred_outer t (inside b l v o) h =
    among_alone (inside (after t b) (loose_after t l) false o)
    (behind_inside (string_tests t) b (loose_after t l) h.0.strict (loose_alone t l h.0.loose), h.1)
charred_outer t (one_of o u) h =
    with_ways_alone (chars_outer t o) (chars_outer t u) (charred_outer t o h.0) (charred_outer t u h.1)

charred : (t : List ℕ) (w : Way) → IsAloneWay w → AreAlone (chars_way t w)
charred t (among o) h = charred_outer t o h
charred t (in_tag p o) h = tt

any_charred_outer : (o : Outer) → IsAloneOutside o → AreAlone (any_string_outer o)
any_charred_outer (document p) h =
    among_alone (document (after_solid p)) (after_none solid_tests p h.1, (after_left solid_tests p h.1).alone)
any_charred_outer (inside b l v o) h =
    among_alone (inside (after_solid b) (after_solid l) false o)
    (behind_inside solid_tests b (after_solid l) h.0.strict (after_left solid_tests l h.0.loose).alone, h.1)
any_charred_outer (one_of o u) h =
    with_ways_alone (any_string_outer o) (any_string_outer u) (any_charred_outer o h.0) (any_charred_outer u h.1)

any_charred : (w : Way) → IsAloneWay w → AreAlone (any_string_way w)
any_charred (among o) h = any_charred_outer o h
any_charred (in_tag p o) h = tt

ways_alone : (o : Outer) → IsAloneOutside o → AreAlone (ways_of o)
ways_alone (document p) h = (h, tt)
ways_alone (inside b l v o) h = (h, tt)
ways_alone (one_of o u) h = with_ways_alone (ways_of o) (ways_of u) (ways_alone o h.0) (ways_alone u h.1)

left_outer : (o : Outer) → IsAloneOutside o → AreAlone (leave_outer o)
left_outer (document p) h = tt
left_outer (inside b l v o) h = either (λ (r : Residual). AreAlone r) (may_leave b l v) (ways_of o) [] (ways_alone o h.1) tt
left_outer (one_of o u) h = with_ways_alone (leave_outer o) (leave_outer u) (left_outer o h.0) (left_outer u h.1)

left : (w : Way) → IsAloneWay w → AreAlone (leave_way w)
left (among o) h = left_outer o h
left (in_tag p o) h = tt

skipped_outer : (o : Outer) → IsAloneOutside o → AreAlone (leave_skip_outer o)
skipped_outer (document p) h = tt
skipped_outer (inside b l v o) h = ways_alone o h.1
skipped_outer (one_of o u) h = with_ways_alone (leave_skip_outer o) (leave_skip_outer u) (skipped_outer o h.0) (skipped_outer u h.1)

skipped : (w : Way) → IsAloneWay w → AreAlone (leave_skip_way w)
skipped (among o) h = skipped_outer o h
skipped (in_tag p o) h = tt

-- ---- an element's name

content_in_alone : (o : Option Definition) → ((d : Definition) → o ≡ Some d → is_alone d.content ≡ true) → is_alone (content_in o) ≡ true
content_in_alone None h = refl
content_in_alone (Some d) h = h d refl

module _ (g : List Definition) (a : HaveAloneContents g) where
  content_alone : (i : ℕ) → is_alone (content_of g i) ≡ true
  content_alone i = content_in_alone (slice_get g i) (a.alone i)

  tops_alone : (p : Pattern) (os : List Opening) → Rests (IsBare p) os → AreAlone (map (tag_at_top g) os)
  tops_alone p [] h = tt
  tops_alone p (o ∷ os) h = ((content_alone o.number, (h.0.1, h.0.0.alone)), tops_alone p os h.1)

  bare_inside : (b l x y : Pattern) → IsBare b x → is_alone y ≡ true → AreAloneInside x y false
  bare_inside b l x y h c = record { strict = h.0.alone; loose = c; some = λ e. none_passes (string_tests []) x h.1 }

  rest_alone : (l : Pattern) (i : ℕ) (os : List Opening) → Rests (IsBare l) os → is_alone (rest_at i os) ≡ true
  rest_alone l i os h =
      (rest_at_is (λ x. Under true true x)
      (λ p q u v. choice_left p q u v) nothing_left i os (loosened os h)).alone
    where
      loosened : (xs : List Opening) → Rests (IsBare l) xs → Rests (λ x. Under true true x) xs
      loosened [] r = tt
      loosened (x ∷ xs) r = (
        record { strings = λ e. absurd (false≢true (sym e)); complex = λ e. absurd (false≢true (sym e)); alone = r.0.0.alone },
        loosened xs r.1,
      )

  boths_alone : (b l : Pattern) (loose : List Opening) (o : Outer) → IsAloneOutside o → Rests (IsBare l) loose → (os : List Opening)
      → Rests (IsBare b) os → AreAlone (map (tag_of_both g loose o) os)
  boths_alone b l loose o out h [] r = tt
  boths_alone b l loose o out h (x ∷ os) r = (
    (content_alone x.number, (bare_inside b l x.rest (rest_at x.number loose) r.0 (rest_alone l x.number loose h), out)),
    boths_alone b l loose o out h os r.1,
  )

  looses_alone : (l : Pattern) (o : Outer) → IsAloneOutside o → (os : List Opening) → Rests (IsBare l) os → AreAlone (map (tag_of_loose g o) os)
  looses_alone l o out [] r = tt
  looses_alone l o out (x ∷ os) r = (
    (content_alone x.number, (record { strict = refl; loose = r.0.0.alone; some = λ e. refl }, out)),
    looses_alone l o out os r.1,
  )

  others_bare : (P : Pattern → Type 0) (strict os : List Opening) → Rests P os → Rests P (others strict os)
  others_bare P strict [] r = tt
  others_bare P strict (x ∷ os) r =
      either (λ (y : List Opening). Rests P y) (has_number x.number strict) (others strict os) (x ∷ others strict os)
      (others_bare P strict os r.1) (r.0, others_bare P strict os r.1)

  both_alone : (xs ys : Residual) → AreAlone xs → AreAlone ys → AreAlone (xs ++ ys)
  both_alone [] ys h k = k
  both_alone (x ∷ xs) ys h k = (h.0, both_alone xs ys h.1 k)

  opened_inside : (b l : Pattern) (strict loose : List Opening) (o : Outer) → IsAloneOutside o → Rests (IsBare b) strict → Rests (IsBare l) loose
      → AreAlone (map (tag_of_both g loose o) strict ++ map (tag_of_loose g o) (others strict loose))
  opened_inside b l strict loose o out h k =
      both_alone (map (tag_of_both g loose o) strict) (map (tag_of_loose g o) (others strict loose))
      (boths_alone b l loose o out k strict h) (looses_alone l o out (others strict loose) (others_bare (IsBare l) strict loose k))

  entered_outer : (n : Name) (o : Outer) → IsAloneOutside o → AreAlone (enter_outer g n o)
  entered_outer n (document p) h = tops_alone p (opens g n p) (opens_bare g n p h.1)
  entered_outer n (inside b l v o) h =
      opened_inside b l (opens g n b) (opens g n l) o h.1 (opens_bare g n b h.0.strict) (opens_bare g n l h.0.loose)
  entered_outer n (one_of o u) h =
      with_ways_alone (enter_outer g n o) (enter_outer g n u) (entered_outer n o h.0) (entered_outer n u h.1)

  entered : (n : Name) (w : Way) → IsAloneWay w → AreAlone (enter_way g n w)
  entered n (among o) h = entered_outer n o h
  entered n (in_tag p o) h = tt

  skip_entered_outer : (n : Name) (o : Outer) → IsAloneOutside o → AreAlone (skip_outer g n o)
  skip_entered_outer n (document p) h = tops_alone p (skip_opens g n p) (skip_bare g n p h.1)
  skip_entered_outer n (inside b l v o) h =
      opened_inside b l (skip_opens g n b) (skip_opens g n l) o h.1 (skip_bare g n b h.0.strict) (skip_bare g n l h.0.loose)
  skip_entered_outer n (one_of o u) h =
      with_ways_alone (skip_outer g n o) (skip_outer g n u) (skip_entered_outer n o h.0) (skip_entered_outer n u h.1)

  skip_entered : (n : Name) (w : Way) → IsAloneWay w → AreAlone (skip_way g n w)
  skip_entered n (among o) h = skip_entered_outer n o h
  skip_entered n (in_tag p o) h = tt

-- ---- attributes, and the end of a start tag

tag_alone : (fits : Pattern → Bool) (n : Name) (p : Pattern) (o : Outer) → is_alone p ≡ true → IsAloneOutside o
    → AreAlone (tag_of (attribute_by fits n p) o)
tag_alone fits n p o a h =
    either (λ (r : Residual). AreAlone r) (is_not_allowed (attribute_by fits n p)) [] (in_tag (attribute_by fits n p) o ∷ []) tt
    (((attribute_left fits n p a).alone, h), tt)

attributed : (n : Name) (v : List ℕ) (w : Way) → IsAloneWay w → AreAlone (attribute_way n v w)
attributed n v (among o) h = tt
attributed n v (in_tag p o) h = tag_alone (value_fits v) n p o h.0 h.1

any_attributed : (n : Name) (w : Way) → IsAloneWay w → AreAlone (any_value_way n w)
any_attributed n (among o) h = tt
any_attributed n (in_tag p o) h = tag_alone (λ q. true) n p o h.0 h.1

module _ {g : List Definition} where
  -- where children have to come, none of them may be the empty string alone
  some_comes : (p : Pattern) → Clean g true true p → is_alone p ≡ true → nullable (after [] (close p)) ≡ false
      → some_passes (string_tests []) (close p) ≡ false
  some_comes p c a none = go (cases_Bool (is_not_allowed (close p))) (cases_Bool (some_passes (string_tests []) (close p)))
    where
      go : (is_not_allowed (close p) ≡ true) ⊎ (is_not_allowed (close p) ≡ false)
          → (some_passes (string_tests []) (close p) ≡ true) ⊎ (some_passes (string_tests []) (close p) ≡ false)
          → some_passes (string_tests []) (close p) ≡ false
      go dead (inr h) = h
      go (inl e) (inl h) = rw (is_not_allowed-is (close p) e) refl
      go (inr e) (inl h) =
          absurd (false≢true (sym none ∙ passed_all (string_tests []) ((fine_close c).clean e) (close_left p a).alone h))

  children_alone : (p : Pattern) (o : Outer) → Clean g true true p → is_alone p ≡ true → IsAloneOutside o → AreAlone (among_of (children_of p o))
  children_alone p o c a h =
      let closed = (close_left p a).alone in
      among_alone (children_of p o)
      (record { strict = closed; loose = (loosen_left (close p) closed).alone; some = λ e. some_comes p c a e }, h)

  content_clean : {l : List Name} {p : Pattern} {o : Outer} → IsLively g l (in_tag p o) → Clean g true true p
  content_clean (lively_in_tag c w h) = c

  ended : {l : List Name} (w : Way) → IsLively g l w → IsAloneWay w → AreAlone (tag_end_way w)
  ended (among o) live h = tt
  ended (in_tag p o) live h = children_alone p o (content_clean live) h.0 h.1

  missed : {l : List Name} (w : Way) → IsLively g l w → IsAloneWay w → AreAlone (missing_way w)
  missed (among o) live h = tt
  missed (in_tag p o) live h = children_alone (drop p) o (drop_clean (content_clean live)) (drop_left p h.0).alone h.1

-- ---- the laws

pub moves_keep_alone : MovesKeepAlone
moves_keep_alone g live a l x lively u = record {
  event = λ e. by_event e;
  skip = λ n. stepped_alone (skip_way g n) (λ w i h. skip_entered g a n w h) [] x tt lively u;
  value = λ n. stepped_alone (any_value_way n) (λ w i h. any_attributed n w h) [] x tt lively u;
  string = stepped_alone any_string_way (λ w i h. any_charred w h) [] x tt lively u;
  attributes = stepped_alone missing_way (λ w i h. missed w i h) [] x tt lively u;
  content = stepped_alone leave_skip_way (λ w i h. skipped w h) [] x tt lively u;
}
  where
    by_event : (e : Event) → AreAlone (behind_event g e x)
    by_event (Enter n) = stepped_alone (enter_way g n) (λ w i h. entered g a n w h) [] x tt lively u
    by_event (Att n v) = stepped_alone (attribute_way n v) (λ w i h. attributed n v w h) [] x tt lively u
    by_event TagEnd = stepped_alone tag_end_way (λ w i h. ended w i h) [] x tt lively u
    by_event (Chars t) = stepped_alone (chars_way t) (λ w i h. charred t w h) [] x tt lively u
    by_event Leave = stepped_alone leave_way (λ w i h. left w h) [] x tt lively u

start_alone : {p : Pattern} → IsStart p → (has_string_leaf p ≡ false) × (is_alone p ≡ true)
start_alone one_ref = (refl, refl)
start_alone (a_choice {p = p} {q = q} s r) =
    let h = start_alone s in
    let k = start_alone r in
    (rw (h.0, k.0) refl, rw (h.1, k.1) refl)

pub frames_are_alone : FramesAreAlone
frames_are_alone p s = (start_alone s, tt)
