-- An attribute and the end of a start tag take off one event.
use Rattle.std.proofs.Common.{◌≡◌, ℕ, List, [], ◌∷◌, Bool, true, false, refl, ap, subst, ⊎_elim}
use Rattle.std.specs.Prelude.{if◌then◌else◌}
use Rattle.std.specs.List.{AllByRecursion}
use Rattle.nx_base.specs.declared.name.Name.{Name}
use Rattle.nx_base.specs.Trees.{Attribute, Children, nil, string, element, without_blanks, Event, Enter, Att, TagEnd, Leave, children_flat, attributes_flat}
use Rattle.rng_core.specs.Patterns.{Pattern, Definition, not_allowed, empty, any_text, typed, literal, listed, attribute, ref, one_or_more, choice, group, interleave}
use Rattle.rng_core.specs.Matching.{no_attribute, Matches, by_empty, by_text, by_first, by_second, by_group, by_interleave, by_one, by_more, by_element, by_data, by_value, by_list, Weakly, as_they_stand, with_blanks_left_out, as_one_empty_string}
use Rattle.rng_kept.specs.SmallPatterns.{is_not_allowed, one_or_more_of}
use Rattle.rng_kept.specs.Nullable.{nullable}
use Rattle.rng_kept.specs.Lists.{lists_are, has_no_list, has_flat_lists}
use Rattle.rng_kept.specs.Residuals.{Outer, document, inside, one_of, Way, among, in_tag, Residual, MatchesWeakly, TakesChildren, strictly, loosely, voidly, TakesOuter, at_document, at_inside, at_this, at_other, TakesWay, among_children, in_start_tag, Takes, by_this}
use Rattle.rng_kept.specs.Entering.{enter_way, enter}
use Rattle.rng_kept.specs.Events.{AreText}
use Rattle.rng_residual.proofs.SmallPatterns.{Same, or_same, seq_same, mix_same, or_sides, by_test, and_true, never_no, is_not_allowed-is}
use Rattle.rng_residual.proofs.Nullable.{nullable_in, nullable_out, group_parts, interleave_parts}
use Rattle.rng_residual.proofs.Entering.{enter_in as enter_outer_in, enter_out as enter_outer_out}
use Rattle.rng_residual.specs.Solid.{PassSolid}
use Rattle.rng_kept.specs.Strings.{after}
use Rattle.rng_residual.proofs.Content.{IsFlat}
use Rattle.rng_kept.specs.Attributes.{after_attribute, close}
use Rattle.rng_kept.specs.SolidStrings.{solid_tests, loosen}
use Rattle.rng_kept.specs.Tags.{tag_of, attribute_way, attribute_of, children_of, tag_end_way, tag_end}
use Rattle.rng_kept.specs.Clean.{Clean, Fine}
use Rattle.rng_residual.proofs.Cleaning.{flat_clean, fine_close, fine_keeps, leaf_data, leaf_value, leaf_list}
use Rattle.rng_residual.proofs.Keeping.{lists_keep, choice_keeps, group_keeps, interleave_keeps}
use Rattle.rng_residual.proofs.Strings.{after_in, after_out}
use Rattle.rng_residual.proofs.Attributes.{attribute_is, after_attribute_in, after_attribute_out}
use Rattle.rng_residual.proofs.Merging.{takes_one, step_in, step_out}
use Rattle.rng_residual.proofs.Content.{among_in, among_out, all_hold}
use Rattle.rng_residual.proofs.Solid.{AreTexts, AreSolid, solid_first, solid_front, solid_back, solid_left, solid_right, solid_without_blanks, texts_of}

more_never : {X : Type 0} {g : List Definition} {a : List Attribute} {c : Children} → Matches g (one_or_more not_allowed) a c → X
more_never (by_one m) = never_no m
more_never (by_more s o m n) = never_no m

pub more_same : (g : List Definition) (p : Pattern) → Same g (one_or_more_of p) (one_or_more p)
more_same g p =
    by_test (λ r. Same g r (one_or_more p)) (is_not_allowed p) _ _
    (λ h. rw (is_not_allowed-is p h) (record { to = λ m. never_no m; from = λ m. more_never m }))
    (λ _. record { to = λ m. m; from = λ m. m })

-- ---- no attribute comes any more

more_flat : (test : Pattern → Bool) (p : Pattern) → lists_are test p ≡ true → lists_are test (one_or_more_of p) ≡ true
more_flat test p f = by_test (λ r. lists_are test r ≡ true) (is_not_allowed p) _ _ (λ _. refl) (λ _. f)

pub close_flat : (test : Pattern → Bool) (p : Pattern) → lists_are test p ≡ true → lists_are test (close p) ≡ true
close_flat test (one_or_more p) f = more_flat test (close p) (close_flat test p f)
close_flat test (choice p q) f = let e = and_true _ _ f in choice_keeps (lists_keep test) (close p) (close q) (close_flat test p e.0) (close_flat test q e.1)
close_flat test (group p q) f = let e = and_true _ _ f in group_keeps (lists_keep test) (close p) (close q) (close_flat test p e.0) (close_flat test q e.1)
close_flat test (interleave p q) f = let e = and_true _ _ f in interleave_keeps (lists_keep test) (close p) (close q) (close_flat test p e.0) (close_flat test q e.1)
close_flat test (attribute c p) f = refl
close_flat test not_allowed f = refl
close_flat test empty f = refl
close_flat test any_text f = refl
close_flat test (typed t e) f = refl
close_flat test (literal t v) f = refl
close_flat test (listed p) f = f
close_flat test (ref i) f = refl

pub close_in : {g : List Definition} {p : Pattern} {c : Children} → Matches g p [] c → Matches g (close p) [] c
close_in by_empty = by_empty
close_in (by_text s) = by_text s
close_in (by_data a d) = by_data a d
close_in (by_value a s) = by_value a s
close_in (by_list m) = by_list m
close_in {g = g} (by_first {p = p} {q = q} m) = (or_same g (close p) (close q)).from (by_first (close_in m))
close_in {g = g} (by_second {p = p} {q = q} m) = (or_same g (close p) (close q)).from (by_second (close_in m))
close_in {g = g} (by_group {p = p} {q = q} no_attribute o m n) = (seq_same g (close p) (close q)).from (by_group no_attribute o (close_in m) (close_in n))
close_in {g = g} (by_interleave {p = p} {q = q} no_attribute o m n) = (mix_same g (close p) (close q)).from (by_interleave no_attribute o (close_in m) (close_in n))
close_in {g = g} (by_one {p = p} m) = (more_same g (close p)).from (by_one (close_in m))
close_in {g = g} (by_more {p = p} no_attribute o m n) = (more_same g (close p)).from (by_more no_attribute o (close_in m) ((more_same g (close p)).to (close_in n)))
close_in (by_element e h w m) = by_element e h w m

pub close_out : {g : List Definition} (p : Pattern) {c : Children} → Matches g (close p) [] c → Matches g p [] c
close_out {g = g} (one_or_more p) m = go (λ c k. close_out p {c = c} k) ((more_same g (close p)).to m)
  where
    go : ((c : Children) → Matches g (close p) [] c → Matches g p [] c) → {c : Children} → Matches g (one_or_more (close p)) [] c → Matches g (one_or_more p) [] c
    go f (by_one k) = by_one (f _ k)
    go f (by_more no_attribute o k n) = by_more no_attribute o (f _ k) (go f n)
close_out {g = g} (choice p q) m =
    ⊎_elim (λ l. by_first (close_out p l)) (λ r. by_second (close_out q r)) (or_sides ((or_same g (close p) (close q)).to m))
close_out {g = g} (group p q) m =
    let w = group_parts ((seq_same g (close p) (close q)).to m) in by_group no_attribute w.order (close_out p w.left) (close_out q w.right)
close_out {g = g} (interleave p q) m =
    let w = interleave_parts ((mix_same g (close p) (close q)).to m) in by_interleave no_attribute w.shuffle (close_out p w.left) (close_out q w.right)
close_out (attribute cls p) m = never_no m
close_out not_allowed m = m
close_out empty m = m
close_out any_text m = m
close_out (typed t e) m = m
close_out (literal t v) m = m
close_out (listed p) m = m
close_out (ref i) m = m

-- ---- no blank string comes any more

leaf_out : {g : List Definition} (b : Bool) (p : Pattern) {c : Children} → Matches g (if b then p else not_allowed) [] c → Matches g p [] c
leaf_out true p m = m
leaf_out false p m = never_no m

module _ {g : List Definition} {h b : Bool} where
  pub loosen_in : {p : Pattern} {c : Children} → PassSolid g → Fine g h b p → AreSolid c → Matches g p [] c → Matches g (loosen p) [] c
  loosen_in l f s by_empty = by_empty
  loosen_in l f s (by_text a) = by_text a
  loosen_in l f s (by_data {type = type} {excepts = es} {text = t} a d) =
      let w = solid_first s in rw ((l.passes t w.0 w.1).data_in type es (leaf_data f) (by_data a d)) (by_data a d)
  loosen_in l f s (by_value {type = type} {text = t} {wanted = v} a d) =
      let w = solid_first s in rw ((l.passes t w.0 w.1).value_in type v (leaf_value f) (by_value a d)) (by_value a d)
  loosen_in l f s (by_list {p = p} {text = t} m) =
      let w = solid_first s in rw ((l.passes t w.0 w.1).list_in p (leaf_list f) (by_list m)) (by_list m)
  loosen_in l f s (by_first {p = p} {q = q} m) = (or_same g (loosen p) (loosen q)).from (by_first (loosen_in l ((fine_keeps g h b).from_choice p q f).0 s m))
  loosen_in l f s (by_second {p = p} {q = q} m) = (or_same g (loosen p) (loosen q)).from (by_second (loosen_in l ((fine_keeps g h b).from_choice p q f).1 s m))
  loosen_in l f s (by_group {p = p} {q = q} no_attribute o m n) =
      (seq_same g (loosen p) (loosen q)).from (by_group no_attribute o (loosen_in l ((fine_keeps g h b).from_group p q f).0 (solid_front o s) m) (loosen_in l ((fine_keeps g h b).from_group p q f).1 (solid_back o s) n))
  loosen_in l f s (by_interleave {p = p} {q = q} no_attribute o m n) =
      (mix_same g (loosen p) (loosen q)).from (by_interleave no_attribute o (loosen_in l ((fine_keeps g h b).from_interleave p q f).0 (solid_left o s) m) (loosen_in l ((fine_keeps g h b).from_interleave p q f).1 (solid_right o s) n))
  loosen_in l f s (by_one {p = p} m) = (more_same g (loosen p)).from (by_one (loosen_in l ((fine_keeps g h b).from_more p f) s m))
  loosen_in l f s (by_more {p = p} no_attribute o m n) =
      (more_same g (loosen p)).from (by_more no_attribute o (loosen_in l ((fine_keeps g h b).from_more p f) (solid_front o s) m) ((more_same g (loosen p)).to (loosen_in l f (solid_back o s) n)))
  loosen_in l f s (by_element e i w m) = by_element e i w m

module _ {g : List Definition} where
  pub loosen_out : (p : Pattern) {c : Children} → Matches g (loosen p) [] c → Matches g p [] c
  loosen_out (typed t e) m = leaf_out (solid_tests.of_data t e) (typed t e) m
  loosen_out (literal t v) m = leaf_out (solid_tests.of_value t v) (literal t v) m
  loosen_out (listed p) m = leaf_out (solid_tests.of_list p) (listed p) m
  loosen_out (one_or_more p) m = go (λ c k. loosen_out p {c = c} k) ((more_same g (loosen p)).to m)
    where
      go : ((c : Children) → Matches g (loosen p) [] c → Matches g p [] c) → {c : Children} → Matches g (one_or_more (loosen p)) [] c → Matches g (one_or_more p) [] c
      go f (by_one k) = by_one (f _ k)
      go f (by_more no_attribute o k n) = by_more no_attribute o (f _ k) (go f n)
  loosen_out (choice p q) m =
      ⊎_elim (λ l. by_first (loosen_out p l)) (λ r. by_second (loosen_out q r)) (or_sides ((or_same g (loosen p) (loosen q)).to m))
  loosen_out (group p q) m =
      let w = group_parts ((seq_same g (loosen p) (loosen q)).to m) in by_group no_attribute w.order (loosen_out p w.left) (loosen_out q w.right)
  loosen_out (interleave p q) m =
      let w = interleave_parts ((mix_same g (loosen p) (loosen q)).to m) in by_interleave no_attribute w.shuffle (loosen_out p w.left) (loosen_out q w.right)
  loosen_out (attribute cls p) m = m
  loosen_out not_allowed m = m
  loosen_out empty m = m
  loosen_out any_text m = m
  loosen_out (ref i) m = m

  -- ---- weak matching is one of three ways

  pub weak_in : {b : Bool} {p : Pattern} {k k' : Children} → PassSolid g → Clean g true b p → AreTexts k → Weakly k k' → Matches g p [] k' → TakesChildren g (close p) (loosen (close p)) (nullable (after [] (close p))) k
  weak_in l f s as_they_stand m = strictly (close_in m)
  weak_in l f s with_blanks_left_out m = loosely (loosen_in l (fine_close f) (solid_without_blanks s) (close_in m))
  weak_in {p = p} l f s as_one_empty_string m = voidly (nullable_in (after_in (close_flat has_no_list p (flat_clean f)) (close_in m))) refl

  pub weak_out : (p : Pattern) {k : Children} → TakesChildren g (close p) (loosen (close p)) (nullable (after [] (close p))) k → MatchesWeakly g p [] k
  weak_out p {k = k} (strictly m) = record { children = k; weakly = as_they_stand; matched = close_out p m }
  weak_out p {k = k} (loosely m) = record { children = without_blanks k; weakly = with_blanks_left_out; matched = close_out p (loosen_out (close p) m) }
  weak_out p (voidly e f) = rw f (record { children = string [] nil; weakly = as_one_empty_string; matched = close_out p (after_out (close p) (nullable_out (after [] (close p)) e)) })

-- ---- an attribute

pub record Given (n : Name) (v : List ℕ) (a : List Attribute) (s z : List Event) : Type 0 where
  pub rest : List Attribute
  pub is : a ≡ attribute_is n v ∷ rest
  pub events : s ≡ attributes_flat rest (TagEnd ∷ z)

pub given : (n : Name) (v : List ℕ) (a : List Attribute) (s z : List Event) → Att n v ∷ s ≡ attributes_flat a (TagEnd ∷ z) → Given n v a s z
given n v [] s z e = cc
given n v (y ∷ a) s z e =
    let first : n ≡ y.name = cc in
    let second : v ≡ y.value = cc in
    record { rest = a; is = rw (first, second) refl; events = cc }

pub attribute_top : {X : Type 0} (n : Name) (v : List ℕ) (c : Children) (s : List Event) → Att n v ∷ s ≡ children_flat c [] → X
attribute_top n v nil s e = cc
attribute_top n v (string t r) s e = cc
attribute_top n v (element m a k r) s e = cc

pub attribute_inside : {X : Type 0} (n : Name) (v : List ℕ) (c : Children) (s z : List Event) → Att n v ∷ s ≡ children_flat c (Leave ∷ z) → X
attribute_inside n v nil s z e = cc
attribute_inside n v (string t r) s z e = cc
attribute_inside n v (element m a k r) s z e = cc

pub no_attribute_outside : {X : Type 0} {g : List Definition} {n : Name} {v : List ℕ} {s : List Event} (o : Outer) → TakesOuter g o (Att n v ∷ s) → X
no_attribute_outside {n = n} {v = v} {s = s} (document p) (at_document c e m) = attribute_top n v c s e
no_attribute_outside {n = n} {v = v} {s = s} (inside b l w o) (at_inside k rest e c h) = attribute_inside n v k s rest e
no_attribute_outside (one_of o u) (at_this h) = no_attribute_outside o h
no_attribute_outside (one_of o u) (at_other h) = no_attribute_outside u h

pub tag_in : {g : List Definition} {p : Pattern} {o : Outer} {s : List Event} → TakesWay g (in_tag p o) s → Takes g (tag_of p o) s
tag_in {g = g} {p = p} {o = o} {s = s} h = by_test (λ r. Takes g r s) (is_not_allowed p) _ _ (λ e. none (subst (λ q. TakesWay g (in_tag q o) s) (is_not_allowed-is p e) h)) (λ _. by_this h)
  where
    none : {X : Type 0} → TakesWay g (in_tag not_allowed o) s → X
    none (in_start_tag a k rest e w t) = never_no w.matched

pub tag_out : {g : List Definition} (p : Pattern) {o : Outer} {s : List Event} → Takes g (tag_of p o) s → TakesWay g (in_tag p o) s
tag_out {g = g} p {o = o} {s = s} h = go (is_not_allowed p) h
  where
    go : (b : Bool) → Takes g (if b then [] else in_tag p o ∷ []) s → TakesWay g (in_tag p o) s
    go true n = elim n [ ]
    go false n = takes_one n

attribute_tag_in : {g : List Definition} {n : Name} {v : List ℕ} {s : List Event} (p : Pattern) (o : Outer) → has_flat_lists p ≡ true → TakesWay g (in_tag p o) (Att n v ∷ s) → TakesWay g (in_tag (after_attribute n v p) o) s
attribute_tag_in {g = g} {n = n} {v = v} {s = s} p o f (in_start_tag a k rest e w h) =
    let u = given n v a s (children_flat k (Leave ∷ rest)) e in
    in_start_tag u.rest k rest u.events (record { children = w.children; weakly = w.weakly; matched = after_attribute_in f (subst (λ x. Matches g p x w.children) u.is w.matched) }) h

attribute_tag_out : {g : List Definition} {n : Name} {v : List ℕ} {s : List Event} (p : Pattern) (o : Outer) → TakesWay g (in_tag (after_attribute n v p) o) s → TakesWay g (in_tag p o) (Att n v ∷ s)
attribute_tag_out {n = n} {v = v} p o (in_start_tag a k rest e w h) =
    in_start_tag (attribute_is n v ∷ a) k rest (ap (λ (z : List Event). Att n v ∷ z) e) (record { children = w.children; weakly = w.weakly; matched = after_attribute_out p w.matched }) h

pub outer_of : {g : List Definition} {s : List Event} {o : Outer} → TakesWay g (among o) s → TakesOuter g o s
outer_of (among_children h) = h

attribute_way_in : {g : List Definition} {n : Name} {v : List ℕ} {s : List Event} (w : Way) → IsFlat w → TakesWay g w (Att n v ∷ s) → Takes g (attribute_way n v w) s
attribute_way_in (among o) f h = no_attribute_outside o (outer_of h)
attribute_way_in (in_tag p o) f h = tag_in (attribute_tag_in p o f h)

attribute_way_out : {g : List Definition} {n : Name} {v : List ℕ} {s : List Event} (w : Way) → Takes g (attribute_way n v w) s → TakesWay g w (Att n v ∷ s)
attribute_way_out (among o) h = elim h [ ]
attribute_way_out {n = n} {v = v} (in_tag p o) h = attribute_tag_out p o (tag_out (after_attribute n v p) h)

pub attribute_of_in : {g : List Definition} {n : Name} {v : List ℕ} {s : List Event} (x : Residual) → AllByRecursion IsFlat x → Takes g x (Att n v ∷ s) → Takes g (attribute_of n v x) s
attribute_of_in {n = n} {v = v} x a h = step_in (attribute_way n v) (λ w f k. attribute_way_in w f k) x a h

pub attribute_of_out : {g : List Definition} {n : Name} {v : List ℕ} {s : List Event} (x : Residual) → Takes g (attribute_of n v x) s → Takes g x (Att n v ∷ s)
attribute_of_out {n = n} {v = v} x h = step_out (attribute_way n v) (λ w k. attribute_way_out w k) x h

-- ---- the end of a start tag

pub ended : (a : List Attribute) (s z : List Event) → TagEnd ∷ s ≡ attributes_flat a (TagEnd ∷ z) → (a ≡ []) × (s ≡ z)
ended [] s z e = (refl, cc)
ended (y ∷ a) s z e = cc

end_top : {X : Type 0} (c : Children) (s : List Event) → TagEnd ∷ s ≡ children_flat c [] → X
end_top nil s e = cc
end_top (string t r) s e = cc
end_top (element n a k r) s e = cc

end_inside : {X : Type 0} (c : Children) (s z : List Event) → TagEnd ∷ s ≡ children_flat c (Leave ∷ z) → X
end_inside nil s z e = cc
end_inside (string t r) s z e = cc
end_inside (element n a k r) s z e = cc

pub no_end_outside : {X : Type 0} {g : List Definition} {s : List Event} (o : Outer) → TakesOuter g o (TagEnd ∷ s) → X
no_end_outside {s = s} (document p) (at_document c e m) = end_top c s e
no_end_outside {s = s} (inside b l v o) (at_inside k rest e c h) = end_inside k s rest e
no_end_outside (one_of o u) (at_this h) = no_end_outside o h
no_end_outside (one_of o u) (at_other h) = no_end_outside u h

-- what stands in a start tag is clean
abbrev pub IsCleanTag : List Definition → Way → Type 0
IsCleanTag g (among o) = Unit {0}
IsCleanTag g (in_tag p o) = Clean g true true p

module _ {g : List Definition} where
  pub children_of_in : {s : List Event} (p : Pattern) (o : Outer) → PassSolid g → AreText s → Clean g true true p → TakesWay g (in_tag p o) (TagEnd ∷ s) → TakesOuter g (children_of p o) s
  children_of_in {s = s} p o l ws f (in_start_tag a k rest e w h) =
      let u = ended a s (children_flat k (Leave ∷ rest)) e in
      let c = texts_of k (Leave ∷ rest) (subst (λ x. AreText x) u.1 ws) in
      at_inside k rest u.1 (weak_in l f c w.weakly (subst (λ x. Matches g p x w.children) u.0 w.matched)) h

  pub children_of_out : {s : List Event} (p : Pattern) (o : Outer) → TakesOuter g (children_of p o) s → TakesWay g (in_tag p o) (TagEnd ∷ s)
  children_of_out p o (at_inside k rest e c h) = in_start_tag [] k rest (ap (λ (z : List Event). TagEnd ∷ z) e) (weak_out p c) h

  tag_end_way_in : {s : List Event} → PassSolid g → AreText s → (w : Way) → IsCleanTag g w → TakesWay g w (TagEnd ∷ s) → Takes g (tag_end_way w) s
  tag_end_way_in l ws (among o) f h = no_end_outside o (outer_of h)
  tag_end_way_in l ws (in_tag p o) f h = among_in (children_of p o) (children_of_in p o l ws f h)

  tag_end_way_out : {s : List Event} (w : Way) → Takes g (tag_end_way w) s → TakesWay g w (TagEnd ∷ s)
  tag_end_way_out (among o) h = elim h [ ]
  tag_end_way_out (in_tag p o) h = children_of_out p o (among_out (children_of p o) h)

  pub tag_end_in : {s : List Event} (x : Residual) → PassSolid g → AreText s → AllByRecursion (λ w. IsCleanTag g w) x → Takes g x (TagEnd ∷ s) → Takes g (tag_end x) s
  tag_end_in x l ws a h = step_in (tag_end_way) (λ w f k. tag_end_way_in l ws w f k) x a h

  pub tag_end_out : {s : List Event} (x : Residual) → Takes g (tag_end x) s → Takes g x (TagEnd ∷ s)
  tag_end_out x h = step_out (tag_end_way) (λ w k. tag_end_way_out w k) x h

-- ---- an element's name

pub not_enter : {X : Type 0} {n : Name} {s : List Event} (z : List Event) (a : List Attribute) → Enter n ∷ s ≡ attributes_flat a (TagEnd ∷ z) → X
not_enter z [] e = cc
not_enter z (x ∷ a) e = cc

enter_way_in : {g : List Definition} {n : Name} {s : List Event} (w : Way) → Unit {0} → TakesWay g w (Enter n ∷ s) → Takes g (enter_way g n w) s
enter_way_in {n = n} {s = s} (among o) u (among_children h) = enter_outer_in n o s h
enter_way_in (in_tag p o) u (in_start_tag a k rest e w h) = not_enter _ a e

enter_way_out : {g : List Definition} {n : Name} {s : List Event} (w : Way) → Takes g (enter_way g n w) s → TakesWay g w (Enter n ∷ s)
enter_way_out {n = n} {s = s} (among o) h = among_children (enter_outer_out n o s h)
enter_way_out (in_tag p o) h = elim h [ ]

pub enter_in : {g : List Definition} {n : Name} {s : List Event} (x : Residual) → Takes g x (Enter n ∷ s) → Takes g (enter g n x) s
enter_in {g = g} {n = n} {s = s} x h = step_in {ok = λ w. Unit {0}} (enter_way g n) (λ w u k. enter_way_in w u k) x (all_hold x) h

pub enter_out : {g : List Definition} {n : Name} {s : List Event} (x : Residual) → Takes g (enter g n x) s → Takes g x (Enter n ∷ s)
enter_out {g = g} {n = n} x h = step_out (enter_way g n) (λ w k. enter_way_out w k) x h
