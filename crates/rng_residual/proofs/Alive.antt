-- Lively residuals stay so, also where their ways are merged.
use Rattle.std.proofs.Common.{◌≡◌, ℕ, List, [], ◌∷◌, ◌++◌, map, Bool, true, false, not, ◌==◌, ◌&&◌, ◌||◌, refl, ⊎_elim, Option, Some, None}
use Rattle.std.specs.Prelude.{slice_get, if◌then◌else◌}
use Rattle.std.specs.List.{AllByRecursion}
use Rattle.nx_base.specs.declared.name.Name.{Name}
use Rattle.nx_base.specs.Trees.{Attribute, Children, HasAttribute, here, further, no_attributes}
use Rattle.rng_core.specs.Names.{has_name}
use Rattle.rng_core.specs.Patterns.{Pattern, Definition, empty}
use Rattle.rng_core.specs.Matching.{Split, to_first, Matches}
use Rattle.rng_kept.specs.SmallPatterns.{is_not_allowed, choice_of, star}
use Rattle.rng_kept.specs.Nullable.{nullable}
use Rattle.rng_kept.specs.Openings.{Opening, opening, added, joined, then_group, then_interleave, under_interleave, open_definition, opens}
use Rattle.rng_kept.specs.Residuals.{Outer, document, inside, one_of, Way, among, in_tag, Residual}
use Rattle.rng_kept.specs.Entering.{content_of, rest_at, has_number, others, tag_at_top, tag_of_both, tag_of_loose, enter_outer, enter_way, enter}
use Rattle.rng_kept.specs.Merging.{same_outer, is_outer_in, with_outer, either_outer, joined_outer, can_join_ways, joined_way, with_way, with_ways, stepped}
use Rattle.rng_kept.specs.Events.{IsAmong, first, later}
use Rattle.rng_kept.specs.Clean.{Clean, clean_empty, clean_text, clean_data, clean_value, clean_list, clean_attribute, clean_ref, clean_one_or_more, clean_choice, clean_group, clean_interleave, Fine}
use Rattle.rng_kept.specs.Lively.{Given, Within, IsLivelyOutside, lively_document, lively_inside, lively_one_of, IsLively, lively_among, lively_in_tag, AreLively, none_lively, one_lively}
use Rattle.rng_residual.proofs.SmallPatterns.{by_test, is_not_allowed-is, split_none, split_none_is}
use Rattle.rng_residual.proofs.Entering.{IsNamed, AreNamed, one_named, named_first, opens_named}
use Rattle.rng_residual.specs.Solid.{PassNoBlank}
use Rattle.rng_kept.specs.Strings.{string_tests, after}
use Rattle.rng_kept.specs.Content.{is_dead_outer, among_of, loose_after, chars_outer, chars_way, chars, ways_of, may_leave, leave_outer, leave_way, leave}
use Rattle.rng_residual.proofs.Content.{is_flat_outer, IsFlat}
use Rattle.rng_residual.proofs.Tags.{IsCleanTag}
use Rattle.rng_kept.specs.Attributes.{value_fits, after_attribute, close}
use Rattle.rng_kept.specs.SolidStrings.{loosen}
use Rattle.rng_kept.specs.Tags.{tag_of, attribute_way, attribute_of, children_of, tag_end_way, tag_end}
use Rattle.rng_kept.specs.Live.{AreLive}
use Rattle.rng_residual.proofs.Keeping.{some_choice}
use Rattle.rng_residual.proofs.Cleaning.{some_clean, flat_clean, fine, fine_none, flat_fine, fine_choice, clean_choice_of, clean_group_of, clean_interleave_of, clean_star, fine_after, fine_loose_after, fine_attribute, fine_on, fine_close, fine_loosen}
use Rattle.rng_residual.proofs.Repair.{attribute_named, distinct_join, single, has_left, has_right, has_side}
use Rattle.rng_residual.proofs.Splits.{split_assoc, split_back}
use Rattle.rng_residual.proofs.Perm.{match_perm, to_front}
use Rattle.rng_residual.proofs.Attributes.{attribute_is, after_attribute_in, after_attribute_out}
use Rattle.rng_residual.proofs.Nullable.{true_and}

-- ---- what is lively has flat lists

pub flat_outer : {g : List Definition} {o : Outer} → IsLivelyOutside g o → is_flat_outer o ≡ true
flat_outer (lively_document c) = flat_clean c
flat_outer (lively_inside c d e h) = true_and _ _ (flat_fine c) (flat_fine d)
flat_outer (lively_one_of h i) = true_and _ _ (flat_outer h) (flat_outer i)

flat_way : {g : List Definition} {l : List Name} {w : Way} → IsLively g l w → IsFlat w
flat_way (lively_among h) = flat_outer h
flat_way (lively_in_tag c w h) = flat_clean c

pub lively_first : {g : List Definition} {l : List Name} {w : Way} {ws : Residual} → AreLively g l (w ∷ ws) → IsLively g l w × AreLively g l ws
lively_first (one_lively h a) = (h, a)

pub flat_ways : {g : List Definition} {l : List Name} (x : Residual) → AreLively g l x → AllByRecursion IsFlat x
flat_ways [] a = tt
flat_ways (w ∷ ws) a = let b = lively_first a in (flat_way b.0, flat_ways ws b.1)

-- and the content of its start tags is clean
clean_way : {g : List Definition} {l : List Name} {w : Way} → IsLively g l w → IsCleanTag g w
clean_way (lively_among h) = tt
clean_way (lively_in_tag c w h) = c

pub clean_ways : {g : List Definition} {l : List Name} (x : Residual) → AreLively g l x → AllByRecursion (λ w. IsCleanTag g w) x
clean_ways [] a = tt
clean_ways (w ∷ ws) a = let b = lively_first a in (clean_way b.0, clean_ways ws b.1)

-- ---- merged ways

and_false : (x : Bool) → (x && false) ≡ false
and_false true = refl
and_false false = refl

-- of two that are joined the first is alive
joined_alive : (b l c k : Pattern) (v w : Bool) → (is_not_allowed b && (is_not_allowed l && not v)) ≡ false →
    (is_not_allowed (choice_of b c) && (is_not_allowed (choice_of l k) && not (v || w))) ≡ false
joined_alive b l c k v w e = go (is_not_allowed b) (is_not_allowed l) v refl refl e
  where
    last : (x y : Bool) → (x && (y && false)) ≡ false
    last x y = rw (and_false y) (and_false x)

    go : (x y z : Bool) → is_not_allowed b ≡ x → is_not_allowed l ≡ y → (x && (y && not z)) ≡ false →
        (is_not_allowed (choice_of b c) && (is_not_allowed (choice_of l k) && not (z || w))) ≡ false
    go false y z ex ey f = rw (some_choice b c ex) refl
    go true false z ex ey f = rw (some_choice l k ey) (and_false _)
    go true true true ex ey f = last _ _
    go true true false ex ey f = cc

-- an attribute of the name with which the first takes what the second takes without
pub record SomeAttribute (g : List Definition) (n : Name) (p q : Pattern) (a : List Attribute) (c : Children) : Type 0 where
  pub value : List ℕ
  pub matched : Matches g p (attribute_is n value ∷ a) c
  pub from : (b : List Attribute) (k : Children) → Matches g p (attribute_is n value ∷ b) k → Matches g q b k

module _ {g : List Definition} where
  lively_with_outer : (o u : Outer) → IsLivelyOutside g o → IsLivelyOutside g u → IsLivelyOutside g (with_outer o u)
  lively_with_outer o u h i = by_test (λ r. IsLivelyOutside g r) (is_outer_in u o) o (one_of o u) (λ _. h) (λ _. lively_one_of h i)

  lively_either : (o u : Outer) → IsLivelyOutside g o → IsLivelyOutside g u → IsLivelyOutside g (either_outer o u)
  lively_either o (document p) h i = lively_with_outer o (document p) h i
  lively_either o (inside b l v u) h i = lively_with_outer o (inside b l v u) h i
  lively_either o (one_of u r) h (lively_one_of i j) = lively_either (either_outer o u) r (lively_either o u h i) j

  lively_joined : (o u : Outer) → IsLivelyOutside g o → IsLivelyOutside g u → IsLivelyOutside g (joined_outer o u)
  lively_joined (document p) (document q) (lively_document c) (lively_document d) = lively_document (clean_choice_of p q c (fine d))
  lively_joined (document p) (inside b l v o) h i = h
  lively_joined (document p) (one_of u r) h i = h
  lively_joined (inside b l v o) (document q) h i = h
  lively_joined (inside b l v o) (one_of u r) h i = h
  lively_joined (inside b l v o) (inside c k w u) (lively_inside e f a h) (lively_inside d j x i) =
      by_test (λ r. IsLivelyOutside g r) (same_outer o u) (inside (choice_of b c) (choice_of l k) (v || w) o) (inside b l v (either_outer o u))
      (λ _. lively_inside (fine_choice b c e d) (fine_choice l k f j) (joined_alive b l c k v w a) h)
      (λ _. lively_inside e f a (lively_either o u h i))
  lively_joined (one_of o u) r h i = h

  pub among_lively : {l : List Name} {o : Outer} → IsLively g l (among o) → IsLivelyOutside g o
  among_lively (lively_among h) = h

  lively_joined_way : {l : List Name} (x w : Way) → IsLively g l x → IsLively g l w → IsLively g l (joined_way x w)
  lively_joined_way (among o) (among u) h i = lively_among (lively_joined o u (among_lively h) (among_lively i))
  lively_joined_way (among o) (in_tag q u) h i = h
  lively_joined_way (in_tag p o) (among u) h i = h
  lively_joined_way (in_tag p o) (in_tag q u) (lively_in_tag c w h) (lively_in_tag d x i) = lively_in_tag c w (lively_either o u h i)

  lively_with_way : {l : List Name} (xs : Residual) (w : Way) → AreLively g l xs → IsLively g l w → AreLively g l (with_way xs w)
  lively_with_way [] w a h = one_lively h none_lively
  lively_with_way {l = l} (x ∷ xs) w a h =
      let b = lively_first a in
      by_test (λ r. AreLively g l r) (can_join_ways x w) (joined_way x w ∷ xs) (x ∷ with_way xs w)
      (λ _. one_lively (lively_joined_way x w b.0 h) b.1)
      (λ _. one_lively b.0 (lively_with_way xs w b.1 h))

  pub lively_with_ways : {l : List Name} (xs ws : Residual) → AreLively g l xs → AreLively g l ws → AreLively g l (with_ways xs ws)
  lively_with_ways xs [] a b = a
  lively_with_ways xs (w ∷ ws) a b = let c = lively_first b in lively_with_ways (with_way xs w) ws (lively_with_way xs w a c.0) c.1

  pub lively_stepped : {l m : List Name} (f : Way → Residual) → ((w : Way) → IsLively g l w → AreLively g m (f w)) → (done x : Residual) → AreLively g m done → AreLively g l x → AreLively g m (stepped f done x)
  lively_stepped f i done [] d a = d
  lively_stepped f i done (w ∷ ws) d a = let b = lively_first a in lively_stepped f i (with_ways done (f w)) ws (lively_with_ways done (f w) d (i w b.0)) b.1

  -- ---- strings

  pub lively_among_of : {l : List Name} (o : Outer) → (is_dead_outer o ≡ false → IsLivelyOutside g o) → AreLively g l (among_of o)
  lively_among_of {l = l} o h = by_test (λ r. AreLively g l r) (is_dead_outer o) [] (among o ∷ []) (λ _. none_lively) (λ e. one_lively (lively_among (h e)) none_lively)

  chars_outside : {l : List Name} (t : List ℕ) {o : Outer} → IsLivelyOutside g o → AreLively g l (chars_outer t o)
  chars_outside t (lively_document {p = p} c) =
      lively_among_of (document (after t p)) (λ e. lively_document ((fine_after (string_tests t) p (fine c)).clean e))
  chars_outside t (lively_inside {b = b} {l = l} {v = v} {o = o} c d a h) =
      lively_among_of (inside (after t b) (loose_after t l) false o) (λ e. lively_inside (fine_after (string_tests t) b c) (fine_loose_after t l d) e h)
  chars_outside t (lively_one_of {o = o} {u = u} h i) = lively_with_ways (chars_outer t o) (chars_outer t u) (chars_outside t h) (chars_outside t i)

  chars_way_lively : {l : List Name} (t : List ℕ) (w : Way) → IsLively g l w → AreLively g [] (chars_way t w)
  chars_way_lively t (among o) h = chars_outside t (among_lively h)
  chars_way_lively t (in_tag p o) h = none_lively

  pub chars_lively : {l : List Name} (t : List ℕ) (x : Residual) → AreLively g l x → AreLively g [] (chars t x)
  chars_lively t x a = lively_stepped (chars_way t) (chars_way_lively t) [] x none_lively a

  -- ---- an element's end

  pub ways_of_lively : {l : List Name} (o : Outer) → IsLivelyOutside g o → AreLively g l (ways_of o)
  ways_of_lively (document p) h = one_lively (lively_among h) none_lively
  ways_of_lively (inside b l v o) h = one_lively (lively_among h) none_lively
  ways_of_lively (one_of o u) (lively_one_of h i) = lively_with_ways (ways_of o) (ways_of u) (ways_of_lively o h) (ways_of_lively u i)

  lively_if : {l : List Name} (t : Bool) (o : Outer) → IsLivelyOutside g o → AreLively g l (if t then ways_of o else [])
  lively_if true o h = ways_of_lively o h
  lively_if false o h = none_lively

  leave_outer_lively : {l : List Name} {o : Outer} → IsLivelyOutside g o → AreLively g l (leave_outer o)
  leave_outer_lively (lively_document c) = none_lively
  leave_outer_lively (lively_inside {b = b} {l = l} {v = v} {o = o} c d a h) = lively_if (may_leave b l v) o h
  leave_outer_lively (lively_one_of {o = o} {u = u} h i) = lively_with_ways (leave_outer o) (leave_outer u) (leave_outer_lively h) (leave_outer_lively i)

  leave_way_lively : {l : List Name} (w : Way) → IsLively g l w → AreLively g [] (leave_way w)
  leave_way_lively (among o) h = leave_outer_lively (among_lively h)
  leave_way_lively (in_tag p o) h = none_lively

  pub leave_lively : {l : List Name} (x : Residual) → AreLively g l x → AreLively g [] (leave x)
  leave_lively x a = lively_stepped leave_way leave_way_lively [] x none_lively a

  -- ---- an attribute

  -- with one attribute more
  one_given : {l : List Name} {content p q : Pattern} {a : List Attribute} {c : Children} (n : Name) (v : List ℕ) → (IsAmong n l → ⊥) → ((b : List Attribute) (k : Children) → Matches g p (attribute_is n v ∷ b) k → Matches g q b k) →
      Matches g p (attribute_is n v ∷ a) c → Given g l content p (attribute_is n v ∷ a) c → Given g (n ∷ l) content q a c
  one_given {l = l} {a = a} n v f up m w =
      let z = split_assoc w.split (to_first (split_none a)) in
      record {
        given = z.front;
        proper = distinct_join z.inner w.proper (single (attribute_is n v) (attribute_named m (here refl))) (λ i h k. apart i h k);
        names = λ i h. into z.inner i h;
        names_only = λ i h. out z.inner i h;
        all = w.all;
        split = z.outer;
        matched = w.matched;
        from = λ all rest k s j.
            let y = split_back s z.inner in
            up rest k (match_perm (to_front y.inner) (w.from all y.back k y.outer j));
      }
    where
      apart : (i : Name) → HasAttribute i w.given → HasAttribute i (attribute_is n v ∷ []) → ⊥
      apart i h (here e) = f (rw e (w.names_only i h))
      apart i h (further k) = elim k [ ]

      into : {front : List Attribute} → Split front w.given (attribute_is n v ∷ []) → (i : Name) → IsAmong i (n ∷ l) → HasAttribute i front
      into s i (first e) = has_right s (here e)
      into s i (later h) = has_left s (w.names i h)

      only : (i : Name) → HasAttribute i (attribute_is n v ∷ []) → IsAmong i (n ∷ l)
      only i (here e) = first e
      only i (further k) = elim k [ ]

      out : {front : List Attribute} → Split front w.given (attribute_is n v ∷ []) → (i : Name) → HasAttribute i front → IsAmong i (n ∷ l)
      out s i h = ⊎_elim (λ k. later (w.names_only i k)) (λ k. only i k) (has_side s h)

  pub one_within : {l : List Name} {p q : Pattern} (n : Name) → (IsAmong n l → ⊥) →
      ((a : List Attribute) (c : Children) → Matches g q a c → SomeAttribute g n p q a c) → Within g l p → Within g (n ∷ l) q
  one_within n f down w = record {
    number = w.number;
    definition = w.definition;
    is = w.is;
    behind = λ a c m.
        let d = down a c m in
        one_given n d.value f (λ b k j. d.from b k j) d.matched (w.behind (attribute_is n d.value ∷ a) c d.matched);
  }

  pub lively_tag_of : {l : List Name} (p : Pattern) {o : Outer} → Fine g true true p → (Clean g true true p → Within g l p) → IsLivelyOutside g o → AreLively g l (tag_of p o)
  lively_tag_of {l = l} p {o = o} c w h = by_test (λ r. AreLively g l r) (is_not_allowed p) [] (in_tag p o ∷ []) (λ _. none_lively) (λ e. one_lively (lively_in_tag (c.clean e) (w (c.clean e)) h) none_lively)

  attribute_tag : {l : List Name} {p : Pattern} {o : Outer} (n : Name) (v : List ℕ) → (IsAmong n l → ⊥) → IsLively g l (in_tag p o) → AreLively g (n ∷ l) (tag_of (after_attribute n v p) o)
  attribute_tag {p = p} n v f (lively_in_tag c w h) =
      lively_tag_of (after_attribute n v p) (fine_attribute (value_fits v) n p (fine c)) (λ d. one_within n f (λ a k m. record { value = v; matched = after_attribute_out p m; from = λ b j i. after_attribute_in (flat_clean c) i }) w) h

  attribute_way_lively : {l : List Name} (n : Name) (v : List ℕ) → (IsAmong n l → ⊥) → (w : Way) → IsLively g l w → AreLively g (n ∷ l) (attribute_way n v w)
  attribute_way_lively n v f (among o) h = none_lively
  attribute_way_lively n v f (in_tag p o) h = attribute_tag n v f h

  pub attribute_lively : {l : List Name} (n : Name) (v : List ℕ) → (IsAmong n l → ⊥) → (x : Residual) → AreLively g l x → AreLively g (n ∷ l) (attribute_of n v x)
  attribute_lively n v f x a = lively_stepped (attribute_way n v) (attribute_way_lively n v f) [] x none_lively a

  -- ---- the end of a start tag

  fine_loosen_close : (p : Pattern) → PassNoBlank g → Clean g true true p → Fine g false false (loosen (close p))
  fine_loosen_close p k c = fine_on {f = false} {b = true} (loosen) (close p) refl (λ q d. fine_loosen k d) (fine_close c)

  pub end_children : {p : Pattern} {o : Outer} → PassNoBlank g → Clean g true true p → IsLivelyOutside g o → AreLively g [] (among_of (children_of p o))
  end_children {p = p} {o = o} k c h =
      lively_among_of (children_of p o) (λ e. lively_inside (fine_close c) (fine_loosen_close p k c) e h)

  end_tag : {l : List Name} {p : Pattern} {o : Outer} → PassNoBlank g → IsLively g l (in_tag p o) → AreLively g [] (among_of (children_of p o))
  end_tag k (lively_in_tag c w h) = end_children k c h

  end_way : {l : List Name} → PassNoBlank g → (w : Way) → IsLively g l w → AreLively g [] (tag_end_way w)
  end_way k (among o) h = none_lively
  end_way k (in_tag p o) h = end_tag k h

  pub tag_end_lively : {l : List Name} → PassNoBlank g → (x : Residual) → AreLively g l x → AreLively g [] (tag_end x)
  tag_end_lively k x a = lively_stepped (tag_end_way) (end_way k) [] x none_lively a

-- ---- what an element's name opens

-- what is left by each opening is so
pub data AreCleanRests (g : List Definition) (b : Bool) : List Opening → Type 0 where
  no_rests : AreCleanRests g b []
  one_rest : {o : Opening} {os : List Opening} → Clean g false b o.rest → AreCleanRests g b os → AreCleanRests g b (o ∷ os)

module _ {g : List Definition} {b : Bool} where
  pub rests_first : {o : Opening} {os : List Opening} → AreCleanRests g b (o ∷ os) → Clean g false b o.rest × AreCleanRests g b os
  rests_first (one_rest c d) = (c, d)

  added_clean : (i : ℕ) (r : Pattern) (os : List Opening) → Clean g false b r → AreCleanRests g b os → AreCleanRests g b (added i r os)
  added_clean i r [] c d = one_rest c no_rests
  added_clean i r (o ∷ os) c d =
      let w = rests_first d in
      by_test (λ xs. AreCleanRests g b xs) (i == o.number) (opening o.number (choice_of o.rest r) ∷ os) (o ∷ added i r os)
      (λ _. one_rest (clean_choice_of o.rest r w.0 (fine c)) w.1)
      (λ _. one_rest w.0 (added_clean i r os c w.1))

  pub joined_clean : (os ps : List Opening) → AreCleanRests g b os → AreCleanRests g b ps → AreCleanRests g b (joined os ps)
  joined_clean os [] c d = c
  joined_clean os (p ∷ ps) c d = let w = rests_first d in joined_clean (added p.number p.rest os) ps (added_clean p.number p.rest os w.0 c) w.1

  pub group_clean : (q : Pattern) (os : List Opening) → Clean g false b q → AreCleanRests g b os → AreCleanRests g b (map (then_group q) os)
  group_clean q [] c d = no_rests
  group_clean q (o ∷ os) c d = let w = rests_first d in one_rest (clean_group_of o.rest q w.0 c) (group_clean q os c w.1)

  pub left_clean : (q : Pattern) (os : List Opening) → Clean g false b q → AreCleanRests g b os → AreCleanRests g b (map (then_interleave q) os)
  left_clean q [] c d = no_rests
  left_clean q (o ∷ os) c d = let w = rests_first d in one_rest (clean_interleave_of o.rest q w.0 c) (left_clean q os c w.1)

  pub right_clean : (q : Pattern) (os : List Opening) → Clean g false b q → AreCleanRests g b os → AreCleanRests g b (map (under_interleave q) os)
  right_clean q [] c d = no_rests
  right_clean q (o ∷ os) c d = let w = rests_first d in one_rest (clean_interleave_of q o.rest c w.0) (right_clean q os c w.1)

  if_clean : (t : Bool) (os : List Opening) → AreCleanRests g b os → AreCleanRests g b (if t then os else [])
  if_clean true os c = c
  if_clean false os c = no_rests

  pub definition_clean : (o : Option Definition) (n : Name) (i : ℕ) → AreCleanRests g b (open_definition o n i)
  definition_clean None n i = no_rests
  definition_clean (Some d) n i = by_test (λ xs. AreCleanRests g b xs) (has_name d.class n) (opening i empty ∷ []) [] (λ _. one_rest clean_empty no_rests) (λ _. no_rests)

  opens_clean : {p : Pattern} (n : Name) → Clean g false b p → AreCleanRests g b (opens g n p)
  opens_clean n clean_empty = no_rests
  opens_clean n clean_text = no_rests
  opens_clean n (clean_data z s) = no_rests
  opens_clean n (clean_value z k) = no_rests
  opens_clean n (clean_list w h s) = no_rests
  opens_clean n (clean_attribute a h e c m) = no_rests
  opens_clean n (clean_ref {i = i} m a k c w h) = definition_clean (slice_get g i) n i
  opens_clean n (clean_one_or_more {p = p} c) = group_clean (star p) (opens g n p) (clean_star p c) (opens_clean n c)
  opens_clean n (clean_choice {p = p} {q = q} c d) = joined_clean (opens g n p) (opens g n q) (opens_clean n c) (opens_clean n d)
  opens_clean n (clean_group {p = p} {q = q} c d) =
      joined_clean (map (then_group q) (opens g n p)) (if nullable p then opens g n q else []) (group_clean q (opens g n p) d (opens_clean n c)) (if_clean (nullable p) (opens g n q) (opens_clean n d))
  opens_clean n (clean_interleave {p = p} {q = q} c d) =
      joined_clean (map (then_interleave q) (opens g n p)) (map (under_interleave p) (opens g n q)) (left_clean q (opens g n p) d (opens_clean n c)) (right_clean p (opens g n q) c (opens_clean n d))

  -- and of what may be notAllowed
  pub opens_fine : (p : Pattern) (n : Name) → Fine g false b p → AreCleanRests g b (opens g n p)
  opens_fine p n c = go (is_not_allowed p) refl
    where
      go : (v : Bool) → is_not_allowed p ≡ v → AreCleanRests g b (opens g n p)
      go true k = rw (is_not_allowed-is p k) no_rests
      go false k = opens_clean n (c.clean k)

  rest_fine : (i : ℕ) (os : List Opening) → AreCleanRests g b os → Fine g false b (rest_at i os)
  rest_fine i [] d = fine_none
  rest_fine i (o ∷ os) d =
      let w = rests_first d in
      by_test (λ r. Fine g false b r) (i == o.number) (choice_of o.rest (rest_at i os)) (rest_at i os)
      (λ _. fine_choice o.rest (rest_at i os) (fine w.0) (rest_fine i os w.1))
      (λ _. rest_fine i os w.1)

  pub others_clean : (strict os : List Opening) → AreCleanRests g b os → AreCleanRests g b (others strict os)
  others_clean strict [] d = no_rests
  others_clean strict (o ∷ os) d =
      let w = rests_first d in
      by_test (λ xs. AreCleanRests g b xs) (has_number o.number strict) (others strict os) (o ∷ others strict os)
      (λ _. others_clean strict os w.1)
      (λ _. one_rest w.0 (others_clean strict os w.1))

pub others_named : {g : List Definition} {n : Name} (strict os : List Opening) → AreNamed g n os → AreNamed g n (others strict os)
others_named {g = g} {n = n} strict [] d = d
others_named {g = g} {n = n} strict (o ∷ os) d =
    let w = named_first d in
    by_test (λ xs. AreNamed g n xs) (has_number o.number strict) (others strict os) (o ∷ others strict os)
    (λ _. others_named strict os w.1)
    (λ _. one w.0 (others_named strict os w.1))
  where
    one : {x : Opening} {xs : List Opening} → IsNamed g n x.number → AreNamed g n xs → AreNamed g n (x ∷ xs)
    one h k = one_named h k

-- ---- a content before any attribute

record Begun (g : List Definition) (i : ℕ) : Type 0 where
  content : Clean g true true (content_of g i)
  within : Within g [] (content_of g i)

begun : {g : List Definition} {n : Name} (i : ℕ) → AreLive g → IsNamed g n i → Begun g i
begun {g = g} i live d = record { content = rw (d.is) (live.clean i d.definition d.is); within = rw (d.is) whole }
  where
    whole : Within g [] d.definition.content
    whole = record {
      number = i;
      definition = d.definition;
      is = d.is;
      behind = λ a c m. record {
        given = [];
        proper = no_attributes;
        names = λ n h. elim h [ ];
        names_only = λ n h. elim h [ ];
        all = a;
        split = split_none a;
        matched = m;
        from = λ all rest k s j. rw (← split_none_is s) j;
      };
    }

module _ {g : List Definition} {n : Name} where
  pub tops_lively : AreLive g → (os : List Opening) → AreNamed g n os → AreCleanRests g true os → AreLively g [] (map (tag_at_top g) os)
  tops_lively live [] d c = none_lively
  tops_lively live (o ∷ os) d c =
      let u = named_first d in
      let w = rests_first c in
      let e = begun o.number live u.0 in
      one_lively (lively_in_tag e.content e.within (lively_document w.0)) (tops_lively live os u.1 w.1)

  pub both_lively : {outer : Outer} → AreLive g → IsLivelyOutside g outer → (loose os : List Opening) → AreCleanRests g false loose → AreNamed g n os → AreCleanRests g true os → AreLively g [] (map (tag_of_both g loose outer) os)
  both_lively live h loose [] k d c = none_lively
  both_lively live h loose (o ∷ os) k d c =
      let u = named_first d in
      let w = rests_first c in
      let e = begun o.number live u.0 in
      one_lively (lively_in_tag e.content e.within (lively_inside (fine w.0) (rest_fine o.number loose k) (rw (some_clean w.0) refl) h)) (both_lively live h loose os k u.1 w.1)

  pub loose_lively : {outer : Outer} → AreLive g → IsLivelyOutside g outer → (os : List Opening) → AreNamed g n os → AreCleanRests g false os → AreLively g [] (map (tag_of_loose g outer) os)
  loose_lively live h [] d c = none_lively
  loose_lively live h (o ∷ os) d c =
      let u = named_first d in
      let w = rests_first c in
      let e = begun o.number live u.0 in
      one_lively (lively_in_tag e.content e.within (lively_inside fine_none (fine w.0) (rw (some_clean w.0) refl) h)) (loose_lively live h os u.1 w.1)

pub all_append : {g : List Definition} {l : List Name} (xs ys : Residual) → AreLively g l xs → AreLively g l ys → AreLively g l (xs ++ ys)
all_append [] ys a b = b
all_append (x ∷ xs) ys a b = let c = lively_first a in one_lively c.0 (all_append xs ys c.1 b)

enter_outer_lively : {g : List Definition} (n : Name) {o : Outer} → AreLive g → IsLivelyOutside g o → AreLively g [] (enter_outer g n o)
enter_outer_lively {g = g} n live (lively_document {p = p} c) = tops_lively live (opens g n p) (opens_named p) (opens_clean n c)
enter_outer_lively {g = g} n live (lively_inside {b = b} {l = l} {o = o} c d a h) =
    all_append (map (tag_of_both g (opens g n l) o) (opens g n b)) (map (tag_of_loose g o) (others (opens g n b) (opens g n l)))
    (both_lively live h (opens g n l) (opens g n b) (opens_fine l n d) (opens_named b) (opens_fine b n c))
    (loose_lively live h (others (opens g n b) (opens g n l)) (others_named (opens g n b) (opens g n l) (opens_named l)) (others_clean (opens g n b) (opens g n l) (opens_fine l n d)))
enter_outer_lively {g = g} n live (lively_one_of {o = o} {u = u} h i) =
    lively_with_ways (enter_outer g n o) (enter_outer g n u) (enter_outer_lively n live h) (enter_outer_lively n live i)

enter_way_lively : {g : List Definition} {l : List Name} (n : Name) → AreLive g → (w : Way) → IsLively g l w → AreLively g [] (enter_way g n w)
enter_way_lively n live (among o) (lively_among h) = enter_outer_lively n live h
enter_way_lively n live (in_tag p o) h = none_lively

pub enter_lively : {g : List Definition} {l : List Name} (n : Name) → AreLive g → (x : Residual) → AreLively g l x → AreLively g [] (enter g n x)
enter_lively {g = g} n live x a = lively_stepped (enter_way g n) (enter_way_lively n live) [] x none_lively a
