-- Names that no class tells apart are admitted alike.
use Rattle.std.proofs.Common.{◌≡◌, ℕ, List, [], ◌∷◌, ◌++◌, map, Bool, true, false, refl, sym, ap, subst, ⊎_elim, ◌∙◌, Some}
use Rattle.std.specs.Prelude.{slice_get, if◌then◌else◌, IsTrue}
use Rattle.std.proofs.lemmas.Bool.{false≢true}
use Rattle.std.specs.Str.{is_utf8}
use Rattle.nx_base.specs.declared.name.Name.{Name}
use Rattle.nx_base.specs.Names.{is_xml_name, is_attribute_name, same_name}
use Rattle.nx_base.specs.Trees.{Attribute, Children, element, HasAttribute, here, further, AreAttributes, no_attributes, one_more, Event, Enter, Att, TagEnd, Leave, children_flat, attributes_flat, AreWritable}
use Rattle.rng_core.specs.Names.{Class, covers, has_name, has_attribute_name}
use Rattle.rng_core.specs.Patterns.{Pattern, Definition, Language}
use Rattle.rng_core.specs.Unmentioned.{covers_others_in}
use Rattle.rng_core.specs.Matching.{Split, no_attribute, to_first, to_second, then_second, element_of_first, element_to_first, element_to_second, Matches, by_empty, by_text, by_data, by_value, by_list, by_attribute, by_blank_attribute, by_first, by_second, by_group, by_interleave, by_one, by_more, by_element}
use Rattle.rng_kept.specs.Events.{IsAmong, IsDistinct, distinct_enter}
use Rattle.rng_kept.specs.Moves.{Move, take, attributes_of}
use Rattle.rng_kept.specs.KeptLists.{IsEndOf, CanMove}
use Rattle.rng_kept.specs.Mentioned.{class_mentions, IsClassOf, IsAttributesOf, itself, of_one_or_more, of_first_choice, of_second_choice, of_first_of_group, of_second_of_group, of_first_of_interleave, of_second_of_interleave, of_elements, of_attributes, AreUnmentionedAlike}
use Rattle.rng_kept.specs.Residuals.{Outer, document, inside, one_of, Way, among, in_tag, Residual, TakesChildren, strictly, loosely, voidly, TakesOuter, at_document, at_inside, at_this, at_other, TakesWay, among_children, in_start_tag, Takes, by_this, by_later}
use Rattle.rng_kept.specs.Live.{AreLive}
use Rattle.rng_kept.specs.Lively.{IsLively, lively_in_tag, AreLively}
use Rattle.rng_kept.specs.Standing.{Stands}
use Rattle.rng_residual.specs.Unmentioned.{UnmentionedNamesAlike}
use Rattle.rng_residual.proofs.SmallPatterns.{and_true, by_test}
use Rattle.rng_residual.proofs.Nullable.{true_and}
use Rattle.rng_residual.proofs.SoleNames.{same_name_is, same_itself}
use Rattle.rng_residual.proofs.Mentioned.{covers-unmentioned, covers-other_namespace}
use Rattle.rng_residual.proofs.Entering.{entered}
use Rattle.rng_residual.proofs.Tags.{not_enter, no_attribute_outside, given as given_first}
use Rattle.rng_residual.proofs.Attributes.{attribute_is}
use Rattle.rng_residual.proofs.Alive.{lively_first}
use Rattle.rng_residual.proofs.Merging.{takes_one}
use Rattle.rng_residual.proofs.Distinct.{enter_distinct, text_of_writable, attributes_apart, distinct_attributes_on, named}
use Rattle.rng_residual.proofs.Standing.{kept_distinct, lively_all, end_before, end_behind, valid_distinct}

-- ---- classes

-- a class has both names or none
record AreInAlike (c : Class) (n m : Name) : Type 0 where
  same : covers c n ≡ covers c m

of_one_namespace : (c : Class) (n m : Name) → class_mentions c n ≡ false → class_mentions c m ≡ false → n.ns ≡ m.ns → covers c n ≡ covers c m
of_one_namespace c n m e f same = covers-unmentioned c n e ∙ (ap (covers_others_in c) same ∙ sym (covers-unmentioned c m f))

alike : {g : List Definition} {n m : Name} → AreUnmentionedAlike g n m → (i : ℕ) (d : Definition) (c : Class) → slice_get g i ≡ Some d → IsClassOf c d → AreInAlike c n m
alike {n = n} {m = m} u i d c e k = record {
  same = ⊎_elim
      (λ same. of_one_namespace c n m (u.first i d c e k) (u.second i d c e k) same)
      (λ other. covers-other_namespace c n (other.0 i d c e k) ∙ sym (covers-other_namespace c m (other.1 i d c e k)))
      u.namespaces;
}

-- ---- an element by another name

module _ {g : List Definition} {n m : Name} (both : (i : ℕ) (d : Definition) → slice_get g i ≡ Some d → IsTrue (has_name d.class n) → IsTrue (has_name d.class m)) where
  renamed : {p : Pattern} {b : List Attribute} {k r : Children} → Matches g p [] (element n b k r) → Matches g p [] (element m b k r)
  renamed (by_text s) = elim s [ ]
  renamed (by_first x) = by_first (renamed x)
  renamed (by_second x) = by_second (renamed x)
  renamed (by_group no_attribute then_second x y) = by_group no_attribute then_second x (renamed y)
  renamed (by_group no_attribute (element_of_first o) x y) = by_group no_attribute (element_of_first o) (renamed x) y
  renamed (by_interleave no_attribute (element_to_first o) x y) = by_interleave no_attribute (element_to_first o) (renamed x) y
  renamed (by_interleave no_attribute (element_to_second o) x y) = by_interleave no_attribute (element_to_second o) x (renamed y)
  renamed (by_one x) = by_one (renamed x)
  renamed (by_more no_attribute then_second x y) = by_more no_attribute then_second x (renamed y)
  renamed (by_more no_attribute (element_of_first o) x y) = by_more no_attribute (element_of_first o) (renamed x) y
  renamed (by_element {i = i} {d = d} e h w x) = by_element e (both i d e h) w x

  renamed_children : {b l : Pattern} {v : Bool} {a : List Attribute} {k r : Children} → TakesChildren g b l v (element n a k r) → TakesChildren g b l v (element m a k r)
  renamed_children (strictly x) = strictly (renamed x)
  renamed_children (loosely x) = loosely (renamed x)
  renamed_children (voidly x y) = cc

  renamed_outer : (o : Outer) (s : List Event) → TakesOuter g o (Enter n ∷ s) → TakesOuter g o (Enter m ∷ s)
  renamed_outer (document p) s (at_document c e x) =
      let w = entered n c s [] (λ d. cc) e in
      at_document (element m w.attributes w.children w.rest) (ap (λ (z : List Event). Enter m ∷ z) w.events) (renamed (subst (λ c. Matches g p [] c) w.is x))
  renamed_outer (inside b l v o) s (at_inside k rest e x t) =
      let w = entered n k s (Leave ∷ rest) (λ d. cc) e in
      at_inside (element m w.attributes w.children w.rest) rest (ap (λ (z : List Event). Enter m ∷ z) w.events) (renamed_children (subst (λ c. TakesChildren g b l v c) w.is x)) t
  renamed_outer (one_of o u) s (at_this t) = at_this (renamed_outer o s t)
  renamed_outer (one_of o u) s (at_other t) = at_other (renamed_outer u s t)

  renamed_taken : (x : Residual) (s : List Event) → Takes g x (Enter n ∷ s) → Takes g x (Enter m ∷ s)
  renamed_taken [] s t = elim t [ ]
  renamed_taken (w ∷ ws) s (by_later t) = by_later (renamed_taken ws s t)
  renamed_taken (among o ∷ ws) s (by_this (among_children t)) = by_this (among_children (renamed_outer o s t))
  renamed_taken (in_tag p o ∷ ws) s (by_this (in_start_tag a k rest e w h)) = not_enter _ a e

-- ---- two names for one another

module _ (n m : Name) where
  abbrev pub swapped : Name → Name
  swapped k = if same_name k n then m else (if same_name k m then n else k)

  differ : (j k : Name) → same_name j k ≡ false → j ≡ k → ⊥
  differ j k f e = false≢true (sym f ∙ subst (λ z. same_name j z ≡ true) e (same_itself j))

  swap_by : (P : Name → Type 0) (k : Name) → (k ≡ n → P m) → (k ≡ m → P n) → ((k ≡ n → ⊥) → (k ≡ m → ⊥) → P k) → P (swapped k)
  swap_by P k f h i =
      by_test P (same_name k n) _ _ (λ e. f (same_name_is k n e))
      (λ e. by_test P (same_name k m) _ _ (λ d. h (same_name_is k m d)) (λ d. i (differ k n e) (differ k m d)))

  swap_first : swapped n ≡ m
  swap_first = swap_by (λ z. z ≡ m) n (λ e. refl) (λ e. e) (λ f h. absurd (f refl))

  swap_second : swapped m ≡ n
  swap_second = swap_by (λ z. z ≡ n) m (λ e. e) (λ e. refl) (λ f h. absurd (h refl))

  swap_other : (k : Name) → (k ≡ n → ⊥) → (k ≡ m → ⊥) → swapped k ≡ k
  swap_other k f h = swap_by (λ z. z ≡ k) k (λ e. absurd (f e)) (λ e. absurd (h e)) (λ i j. refl)

  swap_back : (k : Name) → swapped (swapped k) ≡ k
  swap_back k = swap_by (λ z. swapped z ≡ k) k (λ e. swap_second ∙ sym e) (λ e. swap_first ∙ sym e) (λ f h. swap_other k f h)

  abbrev pub swap_attribute : Attribute → Attribute
  swap_attribute a = attribute_is (swapped a.name) a.value

  abbrev pub swap_all : List Attribute → List Attribute
  swap_all a = map swap_attribute a

  swap_split : {a x y : List Attribute} → Split a x y → Split (swap_all a) (swap_all x) (swap_all y)
  swap_split no_attribute = no_attribute
  swap_split (to_first s) = to_first (swap_split s)
  swap_split (to_second s) = to_second (swap_split s)

  swap_has : {k : Name} (a : List Attribute) → HasAttribute k (swap_all a) → HasAttribute (swapped k) a
  swap_has [] h = elim h [ ]
  swap_has (x ∷ a) (here e) = here (sym (swap_back x.name) ∙ ap swapped e)
  swap_has (x ∷ a) (further h) = further (swap_has a h)

  module _ (first_is : IsTrue (is_attribute_name n)) (second_is : IsTrue (is_attribute_name m)) where
    swap_named : (k : Name) → IsTrue (is_attribute_name k) → IsTrue (is_attribute_name (swapped k))
    swap_named k h = swap_by (λ z. IsTrue (is_attribute_name z)) k (λ e. second_is) (λ e. first_is) (λ f i. h)

    swap_in : (c : Class) → AreInAlike c n m → (k : Name) → IsTrue (has_attribute_name c k) → IsTrue (has_attribute_name c (swapped k))
    swap_in c u k h =
        let w = and_true (is_attribute_name k) (covers c k) h in
        swap_by (λ z. IsTrue (has_attribute_name c z)) k
        (λ e. true_and (is_attribute_name m) (covers c m) second_is (sym u.same ∙ subst (λ z. covers c z ≡ true) e w.1))
        (λ e. true_and (is_attribute_name n) (covers c n) first_is (u.same ∙ subst (λ z. covers c z ≡ true) e w.1))
        (λ f i. h)

    swap_proper : {a : List Attribute} → AreAttributes a → AreAttributes (swap_all a)
    swap_proper no_attributes = no_attributes
    swap_proper (one_more {a = x} {more = a} h f d) =
        one_more (swap_named x.name h) (λ i. f (subst (λ z. HasAttribute z a) (swap_back x.name) (swap_has a i))) (swap_proper d)

    swap_written : (a : List Attribute) (z : List Event) → AreWritable (attributes_flat a z) → AreWritable (attributes_flat (swap_all a) z)
    swap_written [] z w = w
    swap_written (x ∷ a) z w = ((swap_named x.name w.0.0, w.0.1), swap_written a z w.1)

    swap_match : {g : List Definition} {p : Pattern} {a : List Attribute} {c : Children} → ((k : Class) → IsAttributesOf k p → AreInAlike k n m) → Matches g p a c → Matches g p (swap_all a) c
    swap_match u by_empty = by_empty
    swap_match u (by_text s) = by_text s
    swap_match u (by_data a d) = by_data a d
    swap_match u (by_value a d) = by_value a d
    swap_match u (by_list x) = by_list x
    swap_match u (by_attribute {class = k} {a = x} h y) = by_attribute (swap_in k (u k itself) x.name h) y
    swap_match u (by_blank_attribute {class = k} {a = x} h b y) = by_blank_attribute (swap_in k (u k itself) x.name h) b y
    swap_match u (by_first x) = by_first (swap_match (λ k i. u k (of_first_choice i)) x)
    swap_match u (by_second x) = by_second (swap_match (λ k i. u k (of_second_choice i)) x)
    swap_match u (by_group s o x y) = by_group (swap_split s) o (swap_match (λ k i. u k (of_first_of_group i)) x) (swap_match (λ k i. u k (of_second_of_group i)) y)
    swap_match u (by_interleave s o x y) = by_interleave (swap_split s) o (swap_match (λ k i. u k (of_first_of_interleave i)) x) (swap_match (λ k i. u k (of_second_of_interleave i)) y)
    swap_match u (by_one x) = by_one (swap_match (λ k i. u k (of_one_or_more i)) x)
    swap_match u (by_more s o x y) = by_more (swap_split s) o (swap_match (λ k i. u k (of_one_or_more i)) x) (swap_match u y)
    swap_match u (by_element e h w x) = by_element e h w x

    -- ---- an attribute by another name

    record Swapped (g : List Definition) (l : List Name) (x : Residual) (v : List ℕ) (s : List Event) : Type 0 where
      rest : List Event
      taken : Takes g x (Att m v ∷ rest)
      writable : AreWritable s → AreWritable rest
      distinct : IsDistinct l (Att n v ∷ s) → IsDistinct l (Att m v ∷ rest)

    same_given : (a : List Attribute) → ((k : Name) → HasAttribute k a → (k ≡ n → ⊥) × (k ≡ m → ⊥)) → swap_all a ≡ a
    same_given [] f = refl
    same_given (x ∷ a) f =
        let w = f x.name (here refl) in
        rw (swap_other x.name w.0 w.1, same_given a (λ k h. f k (further h))) refl

    swapped_way : {g : List Definition} {l : List Name} {v : List ℕ} {s : List Event} → AreLive g → AreUnmentionedAlike g n m → (IsAmong n l → ⊥) → (IsAmong m l → ⊥) →
        (w : Way) → IsLively g l w → TakesWay g w (Att n v ∷ s) → Swapped g l (w ∷ []) v s
    swapped_way live u f h (among o) i (among_children t) = no_attribute_outside o t
    swapped_way {g = g} {l = l} {v = v} {s = s} live u f h (in_tag p o) (lively_in_tag c i j) (in_start_tag a k rest e w t) =
        let z : List Event = children_flat k (Leave ∷ rest) in
        let one = given_first n v a s z e in
        let b = i.behind a w.children w.matched in
        let apart : swap_all b.given ≡ b.given = same_given b.given (λ y d. (λ q. f (subst (λ x. IsAmong x l) q (b.names_only y d)), λ q. h (subst (λ x. IsAmong x l) q (b.names_only y d)))) in
        let split : Split (swap_all b.all) b.given (swap_all a) = subst (λ y. Split (swap_all b.all) y (swap_all a)) apart (swap_split b.split) in
        let matched : Matches g i.definition.content (swap_all b.all) w.children = swap_match (λ x d. alike u i.number i.definition x i.is (of_attributes d)) b.matched in
        let whole : Matches g p (swap_all a) w.children = b.from (swap_all b.all) (swap_all a) w.children split matched in
        let first : swap_all a ≡ attribute_is m v ∷ swap_all one.rest = ap (λ y. swap_all y) one.is ∙ ap (λ y. attribute_is y v ∷ swap_all one.rest) swap_first in
        record {
          rest = attributes_flat (swap_all one.rest) (TagEnd ∷ z);
          taken = by_this (in_start_tag (attribute_is m v ∷ swap_all one.rest) k rest refl (record { children = w.children; weakly = w.weakly; matched = subst (λ y. Matches g p y w.children) first whole }) t);
          writable = λ y. swap_written one.rest (TagEnd ∷ z) (subst (λ x. AreWritable x) one.events y);
          distinct = λ y.
              let d = attributes_apart a l z (named w.matched).0 (subst (λ x. IsDistinct l x) e y) in
              subst (λ x. IsDistinct l (attributes_flat x (TagEnd ∷ z))) first
              (distinct_attributes_on (swap_all a) l (swap_proper d.proper) (λ x q r. away d.apart x (swap_has a q) r) d.rest);
        }
      where
        away : ((x : Name) → HasAttribute x a → IsAmong x l → ⊥) → (x : Name) → HasAttribute (swapped x) a → IsAmong x l → ⊥
        away d x q r = d x (subst (λ y. HasAttribute y a) (swap_other x (λ y. f (subst (λ b. IsAmong b l) y r)) (λ y. h (subst (λ b. IsAmong b l) y r))) q) r

    swapped_taken : {g : List Definition} {l : List Name} {v : List ℕ} {s : List Event} → AreLive g → AreUnmentionedAlike g n m → (IsAmong n l → ⊥) → (IsAmong m l → ⊥) →
        (x : Residual) → AreLively g l x → Takes g x (Att n v ∷ s) → Swapped g l x v s
    swapped_taken live u f h [] a t = elim t [ ]
    swapped_taken live u f h (w ∷ ws) a (by_this t) =
        let r = swapped_way live u f h w (lively_first a).0 t in
        record { rest = r.rest; taken = by_this (takes_one r.taken); writable = r.writable; distinct = r.distinct }
    swapped_taken live u f h (w ∷ ws) a (by_later t) =
        let r = swapped_taken live u f h ws (lively_first a).1 t in
        record { rest = r.rest; taken = by_later r.taken; writable = r.writable; distinct = r.distinct }

-- ---- admitted alike

module _ {g : Language} {p : Pattern} {h : List Move} {x : Residual} (live : AreLive g.definitions) (f : Stands g p h x) {n m : Name} (u : AreUnmentionedAlike g.definitions n m) where
  -- what goes on behind a kept list of the text's own event
  admitted : {e : Event} {s : List Event} → AreWritable s → IsEndOf g p h (e ∷ s) → CanMove g p h (take e)
  admitted {s = s} w r =
      let b = end_behind r in
      record { kept = b.kept; is_kept = b.is_kept; viable = record { rest = s; is_rest = record { writable = w; valid = b.valid } } }

  end_of : {e : Event} (r : CanMove g p h (take e)) → IsEndOf g p h (e ∷ r.viable.rest)
  end_of r = end_before (record { kept = r.kept; is_kept = r.is_kept; valid = r.viable.is_rest.valid })

  distinct_end : {s : List Event} → IsEndOf g p h s → IsDistinct (attributes_of h) s
  distinct_end {s = s} r = kept_distinct g p h r.kept s r.is_kept (valid_distinct (r.kept ++ s) r.valid)

  elements_alike : IsTrue (is_xml_name n) → IsTrue (is_xml_name m) → CanMove g p h (take (Enter n)) → CanMove g p h (take (Enter m))
  elements_alike i j r =
      let s = r.viable.rest in
      let w = r.viable.is_rest.writable in
      let e = end_of r in
      let d = distinct_end e in
      let t = f.complete (Enter n ∷ s) (tt, text_of_writable s w) e in
      let k = renamed_taken both x s t in
      admitted w (f.sound (Enter m ∷ s) (tt, text_of_writable s w) (distinct_enter (enter_distinct d)) k)
    where
      both : (i : ℕ) (d : Definition) → slice_get g.definitions i ≡ Some d → IsTrue (has_name d.class n) → IsTrue (has_name d.class m)
      both k d e y =
          let w = and_true (is_xml_name n) (covers d.class n) y in
          true_and (is_xml_name m) (covers d.class m) j (sym (alike u k d d.class e (of_elements refl)).same ∙ w.1)

  attributes_alike : (v : List ℕ) → IsTrue (is_utf8 v) → IsTrue (is_attribute_name n) → IsTrue (is_attribute_name m) →
      (IsAmong n (attributes_of h) → ⊥) → (IsAmong m (attributes_of h) → ⊥) → CanMove g p h (take (Att n v)) → CanMove g p h (take (Att m v))
  attributes_alike v y i j a b r =
      let s = r.viable.rest in
      let w = r.viable.is_rest.writable in
      let e = end_of r in
      let t = f.complete (Att n v ∷ s) (y, text_of_writable s w) e in
      let k = swapped_taken n m i j live u a b x (lively_all f.lively) t in
      let z = k.writable w in
      admitted z (f.sound (Att m v ∷ k.rest) (y, text_of_writable k.rest z) (k.distinct (distinct_end e)) k.taken)

pub unmentioned_names_alike : UnmentionedNamesAlike
unmentioned_names_alike g live p h x f n m u = record {
  elements = λ i j r. elements_alike live f u i j r;
  attributes = λ v y i j a b r. attributes_alike live f u v y i j a b r;
}
