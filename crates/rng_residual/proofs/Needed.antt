-- The names of elements that are needed where content is skipped.
use Rattle.std.proofs.Common.{◌≡◌, ℕ, List, [], ◌∷◌, ◌++◌, Bool, true, false, ◌&&◌, Option, Some, None, refl, sym, ap, subst, inl, inr, ◌⊎◌, ⊎_elim, ◌∙◌, append_assoc}
use Rattle.std.specs.Prelude.{Contains, option_map, slice_get, if◌then◌else◌}
use Rattle.std.proofs.lemmas.Bool.{false≢true}
use Rattle.nx_base.specs.declared.name.Name.{Name}
use Rattle.nx_base.specs.Characters.{is_blank}
use Rattle.nx_base.specs.Names.{is_xml_name}
use Rattle.nx_base.specs.Trees.{Attribute, Children, nil, string, element, without_blanks, AreChildren, element_first, Event, TagEnd, Leave, attributes_flat, children_flat, AreWritable}
use Rattle.rng_core.specs.Names.{has_name}
use Rattle.rng_types.specs.declared.datatype.Datatype.{Datatype}
use Rattle.rng_types.specs.declared.datatype.Except.{Except}
use Rattle.rng_core.specs.Patterns.{Pattern, Definition, Language, empty, any_text, typed, literal, listed, ref, group}
use Rattle.rng_core.specs.Matching.{no_attribute, InOrder, then_second, string_of_first, element_of_first, Shuffle, no_child, string_to_first, string_to_second, element_to_first, element_to_second, AreStrings, no_string, one_string, Matches, by_empty, by_text, by_data, by_value, by_list, by_attribute, by_blank_attribute, by_first, by_second, by_group, by_interleave, by_one, by_more, by_element}
use Rattle.rng_core.specs.Validity.{Valid, Viable}
use Rattle.rng_kept.specs.SmallPatterns.{is_not_allowed}
use Rattle.rng_kept.specs.Moves.{Move, attributes_of, Adds, adds_skipped, adds_content}
use Rattle.rng_kept.specs.KeptLists.{HasChild, this_element, behind_element, behind_string, skip_end, skip_move, IsNeeded, Kept, Asks, IsEndOf, CanMove}
use Rattle.rng_kept.specs.Events.{IsText, AreText}
use Rattle.rng_kept.specs.Residuals.{Outer, document, inside, one_of, among, in_tag, Residual, TakesChildren, strictly, loosely, voidly, TakesOuter, at_document, at_inside, at_this, at_other, among_children, in_start_tag, Takes, by_this, by_later}
use Rattle.rng_kept.specs.Clean.{Clean, clean_empty, clean_text, clean_data, clean_value, clean_list, clean_attribute, clean_ref, clean_one_or_more, clean_choice, clean_group, clean_interleave, Fine}
use Rattle.rng_kept.specs.Lively.{IsLivelyOutside, lively_document, lively_inside, lively_one_of, IsLively, lively_among, AreLively}
use Rattle.rng_kept.specs.Live.{AreLive}
use Rattle.rng_kept.specs.Standing.{Stands}
use Rattle.rng_kept.specs.Needed.{is_in, either_way, sole_names, defined_names, child_names, in_front, front_names, content_names, outer_names, way_skips, skip_names, or_none, needed}
use Rattle.rng_residual.specs.Needed.{NeededIsExact, NothingIsListed}
use Rattle.rng_residual.proofs.NameLists.{in_append, in_common, outside, in_contained, contained_in, first_way, second_way, Spares, one_spares, sole_is_exact}
use Rattle.rng_residual.proofs.Keeping.{or_false}
use Rattle.rng_residual.proofs.SmallPatterns.{and_true, or_true, never_no, is_not_allowed-is}
use Rattle.rng_residual.proofs.Solid.{AreSolid, solid_nil, solid_element}
use Rattle.rng_residual.proofs.Fresh.{IsFresh, fresh_end, fresh_leave, CanBeWritten, fresh_children, children_fresh, writable_of}
use Rattle.rng_residual.proofs.Joining.{cat, cat_order, cat_shuffle, cat_solid, cat_written, none_written, solid_stays}
use Rattle.rng_residual.proofs.Skip.{levi, cut, place, side, some_children, cat_over}
use Rattle.rng_residual.proofs.Events.{children_unique, order_flat, passed, at_end, at_leave, order_without_blanks}
use Rattle.rng_residual.proofs.SkipMoves.{no_element, no_leave, not_tag, not_tag_leave}
use Rattle.rng_residual.proofs.Viable.{outer_viable}
use Rattle.rng_residual.proofs.Alive.{lively_first}
use Rattle.rng_residual.proofs.Distinct.{text_of_writable, distinct_of, children_append}
use Rattle.rng_residual.proofs.Standing.{lively_all}
use Rattle.rng_residual.proofs.MoveStands.{children_text}

-- ---- a child of parts is one of the whole

no_child_in : {X : Type 0} {n : Name} → HasChild n nil → X
no_child_in h = elim h [ ]

module _ {n : Name} where
  order_left : {c x r : Children} → InOrder c x r → HasChild n x → HasChild n c
  order_left then_second h = elim h [ ]
  order_left (string_of_first o) (behind_string h) = behind_string (order_left o h)
  order_left (element_of_first o) (this_element e) = this_element e
  order_left (element_of_first o) (behind_element h) = behind_element (order_left o h)

  order_right : {c x r : Children} → InOrder c x r → HasChild n r → HasChild n c
  order_right then_second h = h
  order_right (string_of_first o) h = behind_string (order_right o h)
  order_right (element_of_first o) h = behind_element (order_right o h)

  order_side : {c x r : Children} → InOrder c x r → HasChild n c → HasChild n x ⊎ HasChild n r
  order_side then_second h = inr h
  order_side (string_of_first o) (behind_string h) = ⊎_elim (λ k. inl (behind_string k)) (λ k. inr k) (order_side o h)
  order_side (element_of_first o) (this_element e) = inl (this_element e)
  order_side (element_of_first o) (behind_element h) = ⊎_elim (λ k. inl (behind_element k)) (λ k. inr k) (order_side o h)

  shuffle_left : {c x y : Children} → Shuffle c x y → HasChild n x → HasChild n c
  shuffle_left no_child h = h
  shuffle_left (string_to_first s) (behind_string h) = behind_string (shuffle_left s h)
  shuffle_left (string_to_second s) h = behind_string (shuffle_left s h)
  shuffle_left (element_to_first s) (this_element e) = this_element e
  shuffle_left (element_to_first s) (behind_element h) = behind_element (shuffle_left s h)
  shuffle_left (element_to_second s) h = behind_element (shuffle_left s h)

  shuffle_right : {c x y : Children} → Shuffle c x y → HasChild n y → HasChild n c
  shuffle_right no_child h = h
  shuffle_right (string_to_first s) h = behind_string (shuffle_right s h)
  shuffle_right (string_to_second s) (behind_string h) = behind_string (shuffle_right s h)
  shuffle_right (element_to_first s) h = behind_element (shuffle_right s h)
  shuffle_right (element_to_second s) (this_element e) = this_element e
  shuffle_right (element_to_second s) (behind_element h) = behind_element (shuffle_right s h)

  -- blank strings are no elements
  blanks_back : (k : Children) → HasChild n (without_blanks k) → HasChild n k
  blanks_back nil h = h
  blanks_back (string t k) h = go (is_blank t) (λ f. blanks_back k f) h
    where
      go : (b : Bool) → (HasChild n (without_blanks k) → HasChild n k) → HasChild n (if b then without_blanks k else string t (without_blanks k)) → HasChild n (string t k)
      go true back f = behind_string (back f)
      go false back (behind_string f) = behind_string (back f)
  blanks_back (element m a j k) (this_element e) = this_element e
  blanks_back (element m a j k) (behind_element h) = behind_element (blanks_back k h)

  strings_have_none : {c : Children} → AreStrings c → HasChild n c → ⊥
  strings_have_none no_string h = elim h [ ]
  strings_have_none (one_string s) (behind_string h) = strings_have_none s h

  string_has_none : {t : List ℕ} → HasChild n (string t nil) → ⊥
  string_has_none (behind_string h) = no_child_in h

  element_has : {m : Name} {a : List Attribute} {k : Children} → HasChild n (element m a k nil) → m ≡ n
  element_has (this_element e) = e
  element_has (behind_element h) = no_child_in h

-- ---- what a pattern matches has an element of each name that is needed

module _ {g : List Definition} (n : Name) where
  child_there : {p : Pattern} {a : List Attribute} {c : Children} → Matches g p a c → is_in n (child_names g p) ≡ true → HasChild n c
  child_there by_empty h = absurd (false≢true h)
  child_there (by_text s) h = absurd (false≢true h)
  child_there (by_data a d) h = absurd (false≢true h)
  child_there (by_value a d) h = absurd (false≢true h)
  child_there (by_list m) h = absurd (false≢true h)
  child_there (by_attribute e m) h = absurd (false≢true h)
  child_there (by_blank_attribute e b m) h = absurd (false≢true h)
  child_there (by_first {p = p} {q = q} m) h = child_there m (and_true _ _ (sym (in_common n (child_names g p) (child_names g q)) ∙ h)).0
  child_there (by_second {p = p} {q = q} m) h = child_there m (and_true _ _ (sym (in_common n (child_names g p) (child_names g q)) ∙ h)).1
  child_there (by_group {p = p} {q = q} s o m k) h =
      ⊎_elim (λ f. order_left o (child_there m f)) (λ f. order_right o (child_there k f)) (or_true _ _ (sym (in_append n (child_names g p) (child_names g q)) ∙ h))
  child_there (by_interleave {p = p} {q = q} s o m k) h =
      ⊎_elim (λ f. shuffle_left o (child_there m f)) (λ f. shuffle_right o (child_there k f)) (or_true _ _ (sym (in_append n (child_names g p) (child_names g q)) ∙ h))
  child_there (by_one m) h = child_there m h
  child_there (by_more s o m k) h = order_left o (child_there m h)
  child_there (by_element {d = d} {n = m} e named w k) h =
      let names : defined_names (Some d) ≡ sole_names d.class = refl in
      this_element ((sole_is_exact d.class n m named).0 (subst (λ (o : Option Definition). is_in n (defined_names o) ≡ true) e h))

-- skipped children have an element of each name that a way needs
record Needs (s : Option (List Name)) (x : Children) : Type 0 where
  names : List Name
  is : s ≡ Some names
  there : (n : Name) → is_in n names ≡ true → HasChild n x

needs_first : {x y : Children} (s t : Option (List Name)) → Needs s x → ((n : Name) → HasChild n x → HasChild n y) → Needs (either_way s t) y
needs_first s t w up = let v = first_way s t w.names w.is in record { names = v.all; is = v.is; there = λ n h. up n (w.there n (v.within n h)) }

needs_second : {x y : Children} (s t : Option (List Name)) → Needs t x → ((n : Name) → HasChild n x → HasChild n y) → Needs (either_way s t) y
needs_second s t w up = let v = second_way s t w.names w.is in record { names = v.all; is = v.is; there = λ n h. up n (w.there n (v.within n h)) }

-- behind the whole of a first side
behind_side : {g : List Definition} {p : Pattern} {a : List Attribute} {c x y : Children} (t : Option (List Name)) → Matches g p a c → Needs t x →
    ((n : Name) → HasChild n c → HasChild n y) → ((n : Name) → HasChild n x → HasChild n y) → Needs (option_map (λ names. child_names g p ++ names) t) y
behind_side {g = g} {p = p} t m w left right =
    record {
      names = child_names g p ++ w.names;
      is = ap (λ (o : Option (List Name)). option_map (λ names. child_names g p ++ names) o) w.is;
      there = λ n h. ⊎_elim (λ f. left n (child_there n m f)) (λ f. right n (w.there n f)) (or_true _ _ (sym (in_append n (child_names g p) w.names) ∙ h));
    }

module _ {m : Name} {a : List Attribute} {k : Children} where
  no_string_front : {X : Type 0} {t : List ℕ} {x r : Children} → InOrder (string t nil) x (element m a k r) → X
  no_string_front (string_of_first o) = elim o [ ]

  no_strings_front : {X : Type 0} {c x r : Children} → InOrder c x (element m a k r) → AreStrings c → X
  no_strings_front then_second s = elim s [ ]
  no_strings_front (string_of_first o) (one_string s) = no_strings_front o s
  no_strings_front (element_of_first o) s = elim s [ ]

  one_front : {j : Name} {b : List Attribute} {l x r : Children} {d : Definition} (o : Option Definition) → o ≡ Some d → has_name d.class j ≡ true → InOrder (element j b l nil) x (element m a k r) → Needs (in_front o m) x
  one_front o e h then_second = rw (e) (record { names = []; is = rw h refl; there = λ n f. absurd (false≢true f) })
  one_front o e h (element_of_first f) = elim f [ ]

  front_there : {g : List Definition} {p : Pattern} {c x r : Children} → InOrder c x (element m a k r) → Matches g p [] c → Needs (front_names g m p) x
  front_there o by_empty = elim o [ ]
  front_there o (by_text s) = no_strings_front o s
  front_there o (by_data b d) = no_string_front o
  front_there o (by_value b d) = no_string_front o
  front_there o (by_list w) = no_string_front o
  front_there {g = g} o (by_first {p = p} {q = q} w) = needs_first (front_names g m p) (front_names g m q) (front_there o w) (λ n h. h)
  front_there {g = g} o (by_second {p = p} {q = q} w) = needs_second (front_names g m p) (front_names g m q) (front_there o w) (λ n h. h)
  front_there {g = g} {x = x} {r = r} o (by_group {p = p} {q = q} {c1 = c1} {c2 = c2} no_attribute s m1 m2) =
      let t : Option (List Name) = option_map (λ names. child_names g p ++ names) (front_names g m q) in
      ⊎_elim
      (λ w. ⊎_elim
      (λ e.
      let o2 : InOrder c2 nil (element m a k r) = rw e.1 then_second in
      let whole : InOrder c1 x nil = subst (λ z. InOrder c1 x z) e.0 w.first in
      needs_second (front_names g m p) t
      (behind_side (front_names g m q) m1 (front_there o2 m2) (λ n h. ⊎_elim (λ f. f) (λ f. no_child_in f) (order_side whole h)) (λ n h. no_child_in h)) (λ n h. h))
      (λ v. needs_first (front_names g m p) t (front_there (subst (λ z. InOrder c1 x z) v.is w.first) m1) (λ n h. h))
      (place w.second))
      (λ w.
      needs_second (front_names g m p) t
      (behind_side (front_names g m q) m1 (front_there w.second m2) (λ n h. order_left w.first h) (λ n h. order_right w.first h)) (λ n h. h))
      (levi s o)
  front_there {g = g} o (by_interleave {p = p} {q = q} {c1 = c1} {c2 = c2} no_attribute s m1 m2) =
      let w = cut o s in
      ⊎_elim
      (λ v. needs_first (front_names g m p) (front_names g m q) (front_there (subst (λ z. InOrder c1 w.x1 z) v.is w.first) m1) (λ n h. shuffle_left w.fronts h))
      (λ v. needs_second (front_names g m p) (front_names g m q) (front_there (subst (λ z. InOrder c2 w.x2 z) v.is w.second) m2) (λ n h. shuffle_right w.fronts h))
      (side w.rests)
  front_there o (by_one w) = front_there o w
  front_there {g = g} {x = x} {r = r} o (by_more {p = p} {c1 = c1} {c2 = c2} no_attribute s m1 m2) =
      ⊎_elim
      (λ w. ⊎_elim
      (λ e.
      let o2 : InOrder c2 nil (element m a k r) = rw e.1 then_second in
      let v = front_there o2 m2 in
      record { names = v.names; is = v.is; there = λ n h. no_child_in (v.there n h) })
      (λ v. front_there (subst (λ z. InOrder c1 x z) v.is w.first) m1)
      (place w.second))
      (λ w.
      let v = front_there w.second m2 in
      record { names = v.names; is = v.is; there = λ n h. order_right w.first (v.there n h) })
      (levi s o)
  front_there {g = g} o (by_element {i = i} e h w f) = one_front (slice_get g i) e h o

-- ---- what a name isn't needed for

-- children without such an element
record Lacking (g : List Definition) (b : Bool) (p : Pattern) (n : Name) : Type 0 where
  children : Children
  written : CanBeWritten children
  solid : b ≡ false → AreSolid children
  matched : Matches g p [] children
  lacks : HasChild n children → ⊥

and_false : (a b : Bool) → (a && b) ≡ false → (a ≡ false) ⊎ (b ≡ false)
and_false true b h = inr h
and_false false b h = inl refl

-- leaves that have no element
leaf_lacks : {g : List Definition} {b : Bool} {p : Pattern} {n : Name} → Clean g false b p → ((c : Children) → Matches g p [] c → HasChild n c → ⊥) → Lacking g b p n
leaf_lacks c none = let s = some_children c in record { children = s.children; written = s.written; solid = s.solid; matched = s.matched; lacks = none s.children s.matched }

module _ {g : List Definition} {n : Name} where
  empty_none : {c : Children} → Matches g empty [] c → HasChild n c → ⊥
  empty_none by_empty h = no_child_in h

  text_none : {c : Children} → Matches g any_text [] c → HasChild n c → ⊥
  text_none (by_text s) h = strings_have_none s h

  data_none : {t : Datatype} {e : List Except} {c : Children} → Matches g (typed t e) [] c → HasChild n c → ⊥
  data_none (by_data a d) h = string_has_none h

  value_none : {t : Datatype} {v : List ℕ} {c : Children} → Matches g (literal t v) [] c → HasChild n c → ⊥
  value_none (by_value a d) h = string_has_none h

  list_none : {p : Pattern} {c : Children} → Matches g (listed p) [] c → HasChild n c → ⊥
  list_none (by_list m) h = string_has_none h

-- an element with another name
renamed : {m : Name} {a : List Attribute} {k : Children} (j : Name) → is_xml_name j ≡ true → CanBeWritten (element m a k nil) → CanBeWritten (element j a k nil)
renamed {m = m} {a = a} {k = k} j x w = record { are_children = go w.are_children; writable = (x, w.writable.1) }
  where
    go : AreChildren (element m a k nil) → AreChildren (element j a k nil)
    go (element_first y d q p) = element_first x d q p

module _ {g : List Definition} {b : Bool} {n : Name} where
  ref_lacks : (i : ℕ) {m : Name} {a : List Attribute} {k : Children} → CanBeWritten (element m a k nil) → Matches g (ref i) [] (element m a k nil) →
      is_in n (defined_names (slice_get g i)) ≡ false → Lacking g b (ref i) n
  ref_lacks i {m = m} {a = a} {k = k} w (by_element {d = d} e h f l) none =
      let o = (sole_is_exact d.class n m h).1 (subst (λ (x : Option Definition). is_in n (defined_names x) ≡ false) e none) in
      record {
        children = element o.name a k nil;
        written = renamed o.name (and_true (is_xml_name o.name) _ o.has).0 w;
        solid = λ _. solid_element solid_nil;
        matched = by_element e o.has f l;
        lacks = λ c. o.other (element_has c);
      }

  lacking : {p : Pattern} → Clean g false b p → is_in n (child_names g p) ≡ false → Lacking g b p n
  lacking clean_empty h = leaf_lacks clean_empty (λ c m k. empty_none m k)
  lacking clean_text h = leaf_lacks clean_text (λ c m k. text_none m k)
  lacking (clean_data z s) h = leaf_lacks (clean_data z s) (λ c m k. data_none m k)
  lacking (clean_value z s) h = leaf_lacks (clean_value z s) (λ c m k. value_none m k)
  lacking (clean_list w f s) h = leaf_lacks (clean_list w f s) (λ c m k. list_none m k)
  lacking (clean_attribute a f e c m) h = cc
  lacking (clean_ref {i = i} m a k c w f) h = ref_lacks i (record { are_children = c; writable = w }) f h
  lacking (clean_one_or_more c) h =
      let w = lacking c h in record { children = w.children; written = w.written; solid = w.solid; matched = by_one w.matched; lacks = w.lacks }
  lacking (clean_choice {p = p} {q = q} c d) h =
      ⊎_elim
      (λ f. let w = lacking c f in record { children = w.children; written = w.written; solid = w.solid; matched = by_first w.matched; lacks = w.lacks })
      (λ f. let w = lacking d f in record { children = w.children; written = w.written; solid = w.solid; matched = by_second w.matched; lacks = w.lacks })
      (and_false _ _ (sym (in_common n (child_names g p) (child_names g q)) ∙ h))
  lacking (clean_group {p = p} {q = q} c d) h =
      let f = or_false _ _ (sym (in_append n (child_names g p) (child_names g q)) ∙ h) in
      let w = lacking c f.0 in
      let v = lacking d f.1 in
      record {
        children = cat w.children v.children;
        written = cat_written w.written v.written;
        solid = λ e. cat_solid (w.solid e) (v.solid e);
        matched = by_group no_attribute (cat_order w.children v.children) w.matched v.matched;
        lacks = λ k. ⊎_elim w.lacks v.lacks (order_side (cat_order w.children v.children) k);
      }
  lacking (clean_interleave {p = p} {q = q} c d) h =
      let f = or_false _ _ (sym (in_append n (child_names g p) (child_names g q)) ∙ h) in
      let w = lacking c f.0 in
      let v = lacking d f.1 in
      record {
        children = cat w.children v.children;
        written = cat_written w.written v.written;
        solid = λ e. cat_solid (w.solid e) (v.solid e);
        matched = by_interleave no_attribute (cat_shuffle w.children v.children) w.matched v.matched;
        lacks = λ k. ⊎_elim w.lacks v.lacks (order_side (cat_order w.children v.children) k);
      }

-- children with a front that has no such element, up to an element of a name
record FrontLacking (g : List Definition) (b : Bool) (m : Name) (p : Pattern) (n : Name) : Type 0 where
  attributes : List Attribute
  inner : Children
  rest : Children
  front : Children
  all : Children
  order : InOrder all front (element m attributes inner rest)
  written : CanBeWritten all
  over : CanBeWritten front
  solid : b ≡ false → AreSolid all
  matched : Matches g p [] all
  lacks : HasChild n front → ⊥

order_cat : {c x r : Children} (y : Children) → InOrder c x r → InOrder (cat c y) x (cat r y)
unfolding cat
order_cat y then_second = then_second
order_cat y (string_of_first o) = string_of_first (order_cat y o)
order_cat y (element_of_first o) = element_of_first (order_cat y o)

turned : {c x y : Children} → Shuffle c x y → Shuffle c y x
turned no_child = no_child
turned (string_to_first s) = string_to_second (turned s)
turned (string_to_second s) = string_to_first (turned s)
turned (element_to_first s) = element_to_second (turned s)
turned (element_to_second s) = element_to_first (turned s)

opened : (b : Bool) (names : List Name) → (if b then Some [] else None) ≡ Some names → b ≡ true
opened true names e = refl
opened false names e = cc

module _ {n : Name} where
  -- behind names of a first side
  mapped : (t : Option (List Name)) (xs : List Name) → Spares (option_map (λ names. xs ++ names) t) n → (is_in n xs ≡ false) × Spares t n
  mapped None xs w = let none : None ≡ Some w.names = w.is in cc
  mapped (Some ys) xs w =
      let same : xs ++ ys ≡ w.names = let e : Some (xs ++ ys) ≡ Some w.names = w.is in cc in
      let f = or_false _ _ (sym (in_append n xs ys) ∙ (ap (λ (ns : List Name). is_in n ns) same ∙ w.lacks)) in
      (f.0, record { names = ys; is = refl; lacks = f.1 })

  nothing_spares : {X : Type 0} → Spares None n → X
  nothing_spares w = let none : None ≡ Some w.names = w.is in cc

module _ {g : List Definition} {b : Bool} {m n : Name} where
  -- by what may stand behind the children
  with_more : {p r : Pattern} {y : Children} → CanBeWritten y → (b ≡ false → AreSolid y) → (w : FrontLacking g b m p n) → Matches g r [] (cat w.all y) → FrontLacking g b m r n
  unfolding cat
  with_more {y = y} c s w k = record {
    attributes = w.attributes;
    inner = w.inner;
    rest = cat w.rest y;
    front = w.front;
    all = cat w.all y;
    order = order_cat y w.order;
    written = cat_written w.written c;
    over = w.over;
    solid = λ e. cat_solid (w.solid e) (s e);
    matched = k;
    lacks = w.lacks;
  }

  ref_front : (i : ℕ) {j : Name} {a : List Attribute} {k : Children} → CanBeWritten (element j a k nil) → Matches g (ref i) [] (element j a k nil) → Spares (in_front (slice_get g i) m) n → FrontLacking g b m (ref i) n
  ref_front i {a = a} {k = k} w (by_element {d = d} e h f l) s =
      let has : has_name d.class m ≡ true = opened (has_name d.class m) s.names (ap (λ (x : Option Definition). in_front x m) (sym e) ∙ s.is) in
      record {
        attributes = a;
        inner = k;
        rest = nil;
        front = nil;
        all = element m a k nil;
        order = then_second;
        written = renamed m (and_true (is_xml_name m) _ has).0 w;
        over = none_written;
        solid = λ _. solid_element solid_nil;
        matched = by_element e has f l;
        lacks = λ c. no_child_in c;
      }

  behind_lacking : {p q : Pattern} → Lacking g b p n → FrontLacking g b m q n → FrontLacking g b m (group p q) n
  behind_lacking v w = record {
    attributes = w.attributes;
    inner = w.inner;
    rest = w.rest;
    front = cat v.children w.front;
    all = cat v.children w.all;
    order = cat_over v.children w.order;
    written = cat_written v.written w.written;
    over = cat_written v.written w.over;
    solid = λ e. cat_solid (v.solid e) (w.solid e);
    matched = by_group no_attribute (cat_order v.children w.all) v.matched w.matched;
    lacks = λ k. ⊎_elim v.lacks w.lacks (order_side (cat_order v.children w.front) k);
  }

  front_lacking : {p : Pattern} → Clean g false b p → Spares (front_names g m p) n → FrontLacking g b m p n
  front_lacking clean_empty s = nothing_spares s
  front_lacking clean_text s = nothing_spares s
  front_lacking (clean_data z t) s = nothing_spares s
  front_lacking (clean_value z t) s = nothing_spares s
  front_lacking (clean_list w f t) s = nothing_spares s
  front_lacking (clean_attribute a f e c k) s = cc
  front_lacking (clean_ref {i = i} j a k c w f) s = ref_front i (record { are_children = c; writable = w }) f s
  front_lacking (clean_one_or_more c) s =
      let w = front_lacking c s in
      record { attributes = w.attributes; inner = w.inner; rest = w.rest; front = w.front; all = w.all; order = w.order; written = w.written; over = w.over; solid = w.solid; matched = by_one w.matched; lacks = w.lacks }
  front_lacking (clean_choice {p = p} {q = q} c d) s =
      ⊎_elim
      (λ f. let w = front_lacking c f in record { attributes = w.attributes; inner = w.inner; rest = w.rest; front = w.front; all = w.all; order = w.order; written = w.written; over = w.over; solid = w.solid; matched = by_first w.matched; lacks = w.lacks })
      (λ f. let w = front_lacking d f in record { attributes = w.attributes; inner = w.inner; rest = w.rest; front = w.front; all = w.all; order = w.order; written = w.written; over = w.over; solid = w.solid; matched = by_second w.matched; lacks = w.lacks })
      (one_spares (front_names g m p) (front_names g m q) n s)
  front_lacking (clean_group {p = p} {q = q} c d) s =
      ⊎_elim
      (λ f.
      let w = front_lacking c f in
      let v = some_children d in
      with_more v.written v.solid w (by_group no_attribute (cat_order w.all v.children) w.matched v.matched))
      (λ f. let k = mapped (front_names g m q) (child_names g p) f in behind_lacking (lacking c k.0) (front_lacking d k.1))
      (one_spares (front_names g m p) (option_map (λ names. child_names g p ++ names) (front_names g m q)) n s)
  front_lacking (clean_interleave {p = p} {q = q} c d) s =
      ⊎_elim
      (λ f.
      let w = front_lacking c f in
      let v = some_children d in
      with_more v.written v.solid w (by_interleave no_attribute (cat_shuffle w.all v.children) w.matched v.matched))
      (λ f.
      let w = front_lacking d f in
      let v = some_children c in
      with_more v.written v.solid w (by_interleave no_attribute (turned (cat_shuffle w.all v.children)) v.matched w.matched))
      (one_spares (front_names g m p) (front_names g m q) n s)

-- ---- of residuals: what is skipped has an element of each name

content_there : {g : List Definition} {p : Pattern} {c : Children} → Matches g p [] c → Needs (content_names g p) c
content_there {g = g} {p = p} {c = c} m = go (is_not_allowed p) refl
  where
    go : (v : Bool) → is_not_allowed p ≡ v → Needs (content_names g p) c
    go true e = never_no (subst (λ q. Matches g q [] c) (is_not_allowed-is p e) m)
    go false e = record { names = child_names g p; is = rw e refl; there = λ n h. child_there n m h }

outer_there : {g : List Definition} (skip : Option Name) (s : List Event) (over : Children) (o : Outer) → TakesOuter g o (children_flat over (skip_end skip ∷ s)) → Needs (outer_names g skip o) over
outer_there (Some m) s over (document p) (at_document c e f) = let v = passed over m c s [] at_end e in front_there v.order f
outer_there {g = g} (Some m) s over (inside b l w o) (at_inside k rest e c t) =
    let v = passed over m k s (Leave ∷ rest) at_leave e in
    go v.rest v.order c
  where
    go : {a : List Attribute} {j : Children} (r : Children) → InOrder k over (element m a j r) → TakesChildren g b l w k → Needs (either_way (front_names g m b) (front_names g m l)) over
    go r q (strictly f) = needs_first (front_names g m b) (front_names g m l) (front_there q f) (λ n h. h)
    go r q (loosely f) = needs_second (front_names g m b) (front_names g m l) (front_there (order_without_blanks q) f) (λ n h. blanks_back over h)
    go r q (voidly f h) = no_element q h
outer_there {g = g} (Some m) s over (one_of o u) (at_this h) =
    needs_first (outer_names g (Some m) o) (outer_names g (Some m) u) (outer_there (Some m) s over o h) (λ n k. k)
outer_there {g = g} (Some m) s over (one_of o u) (at_other h) =
    needs_second (outer_names g (Some m) o) (outer_names g (Some m) u) (outer_there (Some m) s over u h) (λ n k. k)
outer_there None s over (document p) (at_document c e f) = no_leave s over c e
outer_there {g = g} None s over (inside b l w o) (at_inside k rest e c t) =
    let u = children_unique over k s rest e in
    go w (subst (λ z. TakesChildren g b l w z) (sym u.0) c)
  where
    go : (v : Bool) → TakesChildren g b l v over → Needs (if v then Some [] else either_way (content_names g b) (content_names g l)) over
    go true f = record { names = []; is = refl; there = λ n h. absurd (false≢true h) }
    go false (strictly f) = needs_first (content_names g b) (content_names g l) (content_there f) (λ n h. h)
    go false (loosely f) = needs_second (content_names g b) (content_names g l) (content_there f) (λ n h. blanks_back over h)
    go false (voidly f h) = cc
outer_there {g = g} None s over (one_of o u) (at_this h) =
    needs_first (outer_names g None o) (outer_names g None u) (outer_there None s over o h) (λ n k. k)
outer_there {g = g} None s over (one_of o u) (at_other h) =
    needs_second (outer_names g None o) (outer_names g None u) (outer_there None s over u h) (λ n k. k)

no_tag_skipped : {X : Type 0} (skip : Option Name) (s z : List Event) (x : Children) (a : List Attribute) → children_flat x (skip_end skip ∷ s) ≡ attributes_flat a (TagEnd ∷ z) → X
no_tag_skipped (Some m) s z x a e = not_tag m s z x a e
no_tag_skipped None s z x a e = not_tag_leave s z x a e

there : {g : List Definition} (skip : Option Name) (s : List Event) (over : Children) (x : Residual) → Takes g x (children_flat over (skip_end skip ∷ s)) → Needs (skip_names g skip x) over
there skip s over [] h = elim h [ ]
there {g = g} skip s over (among o ∷ ws) (by_this (among_children h)) = needs_first (outer_names g skip o) (skip_names g skip ws) (outer_there skip s over o h) (λ n k. k)
there skip s over (in_tag p o ∷ ws) (by_this (in_start_tag a k rest e w h)) = no_tag_skipped skip s _ over a e
there {g = g} skip s over (w ∷ ws) (by_later h) = needs_second (way_skips g skip w) (skip_names g skip ws) (there skip s over ws h) (λ n k. k)

-- ---- and what isn't needed may lack

record OuterLacking (g : List Definition) (skip : Option Name) (o : Outer) (n : Name) : Type 0 where
  over : Children
  written : CanBeWritten over
  rest : List Event
  fresh : (l : List Name) → IsFresh l (children_flat over (skip_end skip ∷ rest))
  taken : TakesOuter g o (children_flat over (skip_end skip ∷ rest))
  lacks : HasChild n over → ⊥

up_to_element : {g : List Definition} {b : Bool} {m n : Name} {p : Pattern} {o : Outer} (w : FrontLacking g b m p n) (z : List Event) → ((l : List Name) → IsFresh l z) →
    TakesOuter g o (children_flat w.all z) → OuterLacking g (Some m) o n
up_to_element {g = g} {o = o} w z fresh t = record {
  over = w.front;
  written = w.over;
  rest = attributes_flat w.attributes (TagEnd ∷ children_flat w.inner (Leave ∷ children_flat w.rest z));
  fresh = λ l. subst (λ (y : List Event). IsFresh l y) (order_flat w.order z) (fresh_children l w.written fresh);
  taken = subst (λ (y : List Event). TakesOuter g o y) (order_flat w.order z) t;
  lacks = w.lacks;
}

-- a pattern that has an element of the name isn't notAllowed
fine_front : {g : List Definition} {b : Bool} {m n : Name} (p : Pattern) → Fine g false b p → Spares (front_names g m p) n → FrontLacking g b m p n
fine_front {g = g} {b = b} {m = m} {n = n} p c s = go (is_not_allowed p) refl
  where
    go : (v : Bool) → is_not_allowed p ≡ v → FrontLacking g b m p n
    go true e = nothing_spares (subst (λ (q : Pattern). Spares (front_names g m q) n) (is_not_allowed-is p e) s)
    go false e = front_lacking (c.clean e) s

fine_content : {g : List Definition} {b : Bool} {n : Name} (p : Pattern) → Fine g false b p → Spares (content_names g p) n → Lacking g b p n
fine_content {g = g} {b = b} {n = n} p c s = go (is_not_allowed p) refl s
  where
    go : (v : Bool) → is_not_allowed p ≡ v → Spares (if v then None else Some (child_names g p)) n → Lacking g b p n
    go true e w = let none : None ≡ Some w.names = w.is in cc
    go false e w =
        let same : child_names g p ≡ w.names = let f : Some (child_names g p) ≡ Some w.names = w.is in cc in
        lacking (c.clean e) (ap (λ (ns : List Name). is_in n ns) same ∙ w.lacks)

lacking_this : {g : List Definition} {skip : Option Name} {o u : Outer} {n : Name} → OuterLacking g skip o n → OuterLacking g skip (one_of o u) n
lacking_this w = record { over = w.over; written = w.written; rest = w.rest; fresh = w.fresh; taken = at_this w.taken; lacks = w.lacks }

lacking_other : {g : List Definition} {skip : Option Name} {o u : Outer} {n : Name} → OuterLacking g skip u n → OuterLacking g skip (one_of o u) n
lacking_other w = record { over = w.over; written = w.written; rest = w.rest; fresh = w.fresh; taken = at_other w.taken; lacks = w.lacks }

outer_lacking : {g : List Definition} (skip : Option Name) {o : Outer} (n : Name) → IsLivelyOutside g o → Spares (outer_names g skip o) n → OuterLacking g skip o n
outer_lacking (Some m) n (lively_document {p = p} c) s =
    let w = front_lacking c s in
    up_to_element w [] (λ l. fresh_end) (at_document w.all refl w.matched)
outer_lacking {g = g} (Some m) n (lively_inside {b = b} {l = l} {v = v} {o = o} c d a h) s =
    let u = outer_viable h in
    ⊎_elim
    (λ f.
    let w = fine_front b c f in
    up_to_element w (Leave ∷ u.rest) (λ k. fresh_leave (u.fresh [])) (at_inside w.all u.rest refl (strictly w.matched) u.taken))
    (λ f.
    let w = fine_front l d f in
    up_to_element w (Leave ∷ u.rest) (λ k. fresh_leave (u.fresh [])) (at_inside w.all u.rest refl (loosely (rw (solid_stays (w.solid refl)) w.matched)) u.taken))
    (one_spares (front_names g m b) (front_names g m l) n s)
outer_lacking {g = g} (Some m) n (lively_one_of {o = o} {u = u} h i) s =
    ⊎_elim (λ f. lacking_this (outer_lacking (Some m) n h f)) (λ f. lacking_other (outer_lacking (Some m) n i f))
    (one_spares (outer_names g (Some m) o) (outer_names g (Some m) u) n s)
outer_lacking None n (lively_document c) s = let none : None ≡ Some s.names = s.is in cc
outer_lacking {g = g} None n (lively_inside {b = b} {l = l} {v = v} {o = o} c d a h) s = go v refl s
  where
    all_of : (k : Children) → CanBeWritten k → TakesChildren g b l v k → (HasChild n k → ⊥) → OuterLacking g None (inside b l v o) n
    all_of k w t f =
        let u = outer_viable h in
        record {
          over = k;
          written = w;
          rest = u.rest;
          fresh = λ m. fresh_children m w (λ j. fresh_leave (u.fresh []));
          taken = at_inside k u.rest refl t u.taken;
          lacks = f;
        }

    go : (w : Bool) → v ≡ w → Spares (if w then Some [] else either_way (content_names g b) (content_names g l)) n → OuterLacking g None (inside b l v o) n
    go true e f = all_of nil none_written (voidly e refl) (λ k. no_child_in k)
    go false e f =
        ⊎_elim
        (λ t. let w = fine_content b c t in all_of w.children w.written (strictly w.matched) w.lacks)
        (λ t. let w = fine_content l d t in all_of w.children w.written (loosely (rw (solid_stays (w.solid refl)) w.matched)) w.lacks)
        (one_spares (content_names g b) (content_names g l) n f)
outer_lacking {g = g} None n (lively_one_of {o = o} {u = u} h i) s =
    ⊎_elim (λ f. lacking_this (outer_lacking None n h f)) (λ f. lacking_other (outer_lacking None n i f))
    (one_spares (outer_names g None o) (outer_names g None u) n s)

record SkipLacking (g : List Definition) (l : List Name) (skip : Option Name) (x : Residual) (n : Name) : Type 0 where
  over : Children
  written : CanBeWritten over
  rest : List Event
  fresh : IsFresh l (children_flat over (skip_end skip ∷ rest))
  taken : Takes g x (children_flat over (skip_end skip ∷ rest))
  lacks : HasChild n over → ⊥

skip_lacking : {g : List Definition} {l : List Name} (skip : Option Name) (x : Residual) (n : Name) → AreLively g l x → Spares (skip_names g skip x) n → SkipLacking g l skip x n
skip_lacking skip [] n a s = let none : None ≡ Some s.names = s.is in cc
skip_lacking {g = g} {l = l} skip (among o ∷ ws) n a s =
    ⊎_elim
    (λ f.
    let w = outer_lacking skip n (outside (lively_first a).0) f in
    record { over = w.over; written = w.written; rest = w.rest; fresh = w.fresh l; taken = by_this (among_children w.taken); lacks = w.lacks })
    (λ f.
    let w = skip_lacking skip ws n (lively_first a).1 f in
    record { over = w.over; written = w.written; rest = w.rest; fresh = w.fresh; taken = by_later w.taken; lacks = w.lacks })
    (one_spares (outer_names g skip o) (skip_names g skip ws) n s)
  where
    outside : IsLively g l (among o) → IsLivelyOutside g o
    outside (lively_among h) = h
skip_lacking skip (in_tag p o ∷ ws) n a s =
    let w = skip_lacking skip ws n (lively_first a).1 s in
    record { over = w.over; written = w.written; rest = w.rest; fresh = w.fresh; taken = by_later w.taken; lacks = w.lacks }

-- ---- of kept lists

-- the event of a skip is text
skip_text : (skip : Option Name) → IsText (skip_end skip)
skip_text (Some m) = tt
skip_text None = tt

record Skipped (skip : Option Name) (added : List Event) : Type 0 where
  over : Children
  are_children : AreChildren over
  writable : AreWritable (children_flat over [])
  is : added ≡ children_flat over (skip_end skip ∷ [])

skipped : (skip : Option Name) {added : List Event} → Adds (skip_move skip) added → Skipped skip added
skipped (Some m) (adds_skipped over c w) = record { over = over; are_children = c; writable = w; is = refl }
skipped None (adds_content over c w) = record { over = over; are_children = c; writable = w; is = refl }

-- a skip adds the content and the event
adds_skip : (skip : Option Name) (over : Children) → AreChildren over → AreWritable (children_flat over []) → Adds (skip_move skip) (children_flat over (skip_end skip ∷ []))
adds_skip (Some m) over c w = adds_skipped over c w
adds_skip None over c w = adds_content over c w

asks_viable : (g : Language) (p : Pattern) (k : List Event) (skip : Option Name) → Viable g.definitions p k → Asks g p (skip_move skip) k
asks_viable g p k (Some m) v = v
asks_viable g p k None v = v

-- content that the residual takes can stand behind some kept list
record ShownViable (g : Language) (p : Pattern) (h : List Move) (skip : Option Name) (over : Children) : Type 0 where
  kept : List Event
  is_kept : Kept g p h kept
  viable : Viable g.definitions p (kept ++ children_flat over (skip_end skip ∷ []))

shown_viable : {g : Language} {p : Pattern} {h : List Move} {x : Residual} {n : Name} → Stands g p h x → (skip : Option Name) →
    (w : SkipLacking g.definitions (attributes_of h) skip x n) → ShownViable g p h skip w.over
shown_viable {g = g} {p = p} {h = h} e skip w =
    let whole : List Event = children_flat w.over (skip_end skip ∷ w.rest) in
    let last : List Event = skip_end skip ∷ [] in
    let b = e.sound whole (text_of_writable whole (writable_of w.fresh)) (distinct_of w.fresh) w.taken in
    let i : b.kept ++ whole ≡ (b.kept ++ children_flat w.over last) ++ w.rest =
    ap (λ (y : List Event). b.kept ++ y) (sym (children_append w.over last w.rest)) ∙ sym (append_assoc b.kept (children_flat w.over last) w.rest) in
    let behind = (children_fresh w.over (attributes_of h) (skip_end skip ∷ w.rest) w.fresh).1 in
    record {
      kept = b.kept;
      is_kept = b.is_kept;
      viable = record { rest = w.rest; is_rest = record { writable = (writable_of behind.1).1; valid = subst (λ (y : List Event). Valid g.definitions p y) i b.valid } };
    }

module _ {g : Language} {p : Pattern} {h : List Move} {x : Residual} (live : AreLive g.definitions) (e : Stands g p h x) (skip : Option Name) where
  -- what can be skipped has what each way needs
  skips : (over : Children) (k : List Event) → AreWritable (children_flat over []) → Kept g p h k → Viable g.definitions p (k ++ children_flat over (skip_end skip ∷ [])) →
      Needs (skip_names g.definitions skip x) over
  skips over k w kept v =
      let r = v.rest in
      let last : List Event = skip_end skip ∷ [] in
      let whole : (k ++ children_flat over last) ++ r ≡ k ++ children_flat over (skip_end skip ∷ r) =
      append_assoc k (children_flat over last) r ∙ ap (λ (y : List Event). k ++ y) (children_append over last r) in
      let o : IsEndOf g p h (children_flat over (skip_end skip ∷ r)) =
      record { kept = k; is_kept = kept; valid = subst (λ (y : List Event). Valid g.definitions p y) whole v.is_rest.valid } in
      let u : AreText (children_flat over (skip_end skip ∷ r)) =
      children_text over [] (skip_end skip ∷ r) (text_of_writable (children_flat over []) w) (skip_text skip, text_of_writable r v.is_rest.writable) in
      there skip r over x (e.complete (children_flat over (skip_end skip ∷ r)) u o)

  needed_there : (n : Name) → Contains (needed g.definitions skip x) n → IsNeeded g p h skip n
  needed_there n c over k q w kept v =
      let s = skips over k w kept v in
      s.there n (in_contained n s.names (subst (λ (o : Option (List Name)). Contains (or_none o) n) s.is c))

  there_needed : CanMove g p h (skip_move skip) → (n : Name) → IsNeeded g p h skip n → Contains (needed g.definitions skip x) n
  there_needed can n f =
      let c = can.is_kept in
      let a = skipped skip c.3 in
      let viable : Viable g.definitions p (c.0 ++ children_flat a.over (skip_end skip ∷ [])) =
      subst (λ (y : List Event). Viable g.definitions p y) (c.4 ∙ ap (λ (y : List Event). c.0 ++ y) a.is) can.viable in
      let s = skips a.over c.0 a.writable c.2 viable in
      subst (λ (o : Option (List Name)). Contains (or_none o) n) (sym s.is) (contained_in n s.names (go s.names s.is (is_in n s.names) refl))
    where
      none : SkipLacking g.definitions (attributes_of h) skip x n → ⊥
      none w =
          let b = shown_viable e skip w in
          w.lacks (f w.over b.kept w.written.are_children w.written.writable b.is_kept b.viable)

      go : (names : List Name) → skip_names g.definitions skip x ≡ Some names → (t : Bool) → is_in n names ≡ t → is_in n names ≡ true
      go names is true d = d
      go names is false d = absurd (none (skip_lacking skip x n (lively_all e.lively) (record { names = names; is = is; lacks = d })))

pub needed_is_exact : NeededIsExact
needed_is_exact g live p h x e skip can n = (needed_there live e skip n, there_needed live e skip can n)

-- ---- where no content can be skipped

-- content that lacks a name can be skipped
can_skip : {g : Language} {p : Pattern} {h : List Move} {x : Residual} → Stands g p h x → (skip : Option Name) (n : Name) →
    SkipLacking g.definitions (attributes_of h) skip x n → CanMove g p h (skip_move skip)
can_skip {g = g} {p = p} {h = h} e skip n w =
    let m = shown_viable e skip w in
    record {
      kept = m.kept ++ children_flat w.over (skip_end skip ∷ []);
      is_kept = (m.kept, children_flat w.over (skip_end skip ∷ []), m.is_kept, adds_skip skip w.over w.written.are_children w.written.writable, refl, asks_viable g p _ skip m.viable);
      viable = m.viable;
    }

pub nothing_is_listed : NothingIsListed
nothing_is_listed g p h x e skip nothing = none (skip_names g.definitions skip x) refl
  where
    none : (o : Option (List Name)) → skip_names g.definitions skip x ≡ o → or_none o ≡ []
    none None is = refl
    none (Some names) is =
        let n = outside names in
        absurd (nothing (can_skip e skip n.0 (skip_lacking skip x n.0 (lively_all e.lively) (record { names = names; is = is; lacks = n.1 }))))
