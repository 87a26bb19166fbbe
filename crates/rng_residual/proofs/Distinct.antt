-- Trees with distinct attributes, and events that repeat none.
use Rattle.std.proofs.Common.{◌≡◌, ℕ, List, [], ◌∷◌, ◌++◌, Bool, true, false, refl, ap, ◌∙◌}
use Rattle.std.specs.Prelude.{IsTrue, if◌then◌else◌}
use Rattle.std.specs.List.{AllByRecursion}
use Rattle.nx_base.specs.declared.name.Name.{Name}
use Rattle.nx_base.specs.Names.{is_xml_name, is_attribute_name}
use Rattle.nx_base.specs.Characters.{is_blank}
use Rattle.nx_base.specs.Trees.{Attribute, Children, nil, string, element, without_blanks, HasAttribute, here, further, AreAttributes, no_attributes, one_more, AreChildren, no_children, string_first, element_first, Event, Enter, Att, TagEnd, Chars, Leave, attributes_flat, children_flat, IsWritable, AreWritable}
use Rattle.rng_core.specs.Names.{covers}
use Rattle.rng_core.specs.Patterns.{Pattern, Definition}
use Rattle.rng_core.specs.Matching.{Split, no_attribute, to_first, to_second, InOrder, then_second, string_of_first, element_of_first, Shuffle, no_child, string_to_first, string_to_second, element_to_first, element_to_second, AreStrings, no_string, one_string, Matches, by_empty, by_text, by_data, by_value, by_list, by_attribute, by_blank_attribute, by_first, by_second, by_group, by_interleave, by_one, by_more, by_element, Weakly, as_they_stand, with_blanks_left_out, as_one_empty_string}
use Rattle.rng_kept.specs.Events.{IsAmong, first, later, IsDistinct, distinct_end, distinct_attribute, distinct_enter, distinct_tag_end, distinct_chars, distinct_leave, IsText, AreText}
use Rattle.rng_residual.proofs.Fresh.{IsFresh, fresh_end, fresh_attribute, fresh_enter, fresh_tag_end, fresh_chars, fresh_leave}
use Rattle.rng_residual.proofs.SmallPatterns.{and_true}

-- ---- names that documents can have, in what is matched

abbrev pub HaveNames : List Attribute → Type 0
HaveNames a = AllByRecursion (λ (x : Attribute). IsTrue (is_attribute_name x.name)) a

pub data AreNamedChildren : Children → Type 0 where
  named_nil : AreNamedChildren nil
  named_string : {t : List ℕ} {r : Children} → AreNamedChildren r → AreNamedChildren (string t r)
  named_element : {n : Name} {a : List Attribute} {k r : Children} → IsTrue (is_xml_name n) → HaveNames a → AreNamedChildren k → AreNamedChildren r → AreNamedChildren (element n a k r)

names_join : {a x y : List Attribute} → Split a x y → HaveNames x → HaveNames y → HaveNames a
names_join no_attribute h k = tt
names_join (to_first s) h k = (h.0, names_join s h.1 k)
names_join (to_second s) h k = (k.0, names_join s h k.1)

order_named : {c x y : Children} → InOrder c x y → AreNamedChildren x → AreNamedChildren y → AreNamedChildren c
order_named then_second h k = k
order_named (string_of_first o) (named_string h) k = named_string (order_named o h k)
order_named (element_of_first o) (named_element n a i h) k = named_element n a i (order_named o h k)

shuffle_named : {c x y : Children} → Shuffle c x y → AreNamedChildren x → AreNamedChildren y → AreNamedChildren c
shuffle_named no_child h k = named_nil
shuffle_named (string_to_first o) (named_string h) k = named_string (shuffle_named o h k)
shuffle_named (string_to_second o) h (named_string k) = named_string (shuffle_named o h k)
shuffle_named (element_to_first o) (named_element n a i h) k = named_element n a i (shuffle_named o h k)
shuffle_named (element_to_second o) h (named_element n a i k) = named_element n a i (shuffle_named o h k)

rest_named : {t : List ℕ} {r : Children} → AreNamedChildren (string t r) → AreNamedChildren r
rest_named (named_string h) = h

strings_named : {c : Children} → AreStrings c → AreNamedChildren c
strings_named no_string = named_nil
strings_named (one_string s) = named_string (strings_named s)

with_blanks_named : (k : Children) → AreNamedChildren (without_blanks k) → AreNamedChildren k
with_blanks_named nil h = h
with_blanks_named (string t r) h = named_string (with_blanks_named r (go (is_blank t) h))
  where
    go : (b : Bool) → AreNamedChildren (if b then without_blanks r else string t (without_blanks r)) → AreNamedChildren (without_blanks r)
    go true i = i
    go false i = rest_named i
with_blanks_named (element n a k r) (named_element m b i h) = named_element m b i (with_blanks_named r h)

weakly_named : {k k' : Children} → Weakly k k' → AreNamedChildren k' → AreNamedChildren k
weakly_named as_they_stand h = h
weakly_named (with_blanks_left_out {children = k}) h = with_blanks_named k h
weakly_named as_one_empty_string h = named_nil

pub named : {g : List Definition} {p : Pattern} {a : List Attribute} {c : Children} → Matches g p a c → HaveNames a × AreNamedChildren c
named by_empty = (tt, named_nil)
named (by_text s) = (tt, strings_named s)
named (by_data a d) = (tt, named_string named_nil)
named (by_value a d) = (tt, named_string named_nil)
named (by_list m) = (tt, named_string named_nil)
named (by_attribute {class = c} {a = x} h m) = (((and_true (is_attribute_name x.name) (covers c x.name) h).0, tt), named_nil)
named (by_blank_attribute {class = c} {a = x} h b m) = (((and_true (is_attribute_name x.name) (covers c x.name) h).0, tt), named_nil)
named (by_first m) = named m
named (by_second m) = named m
named (by_one m) = named m
named (by_group s o m k) = let w = named m in let v = named k in (names_join s w.0 v.0, order_named o w.1 v.1)
named (by_more s o m k) = let w = named m in let v = named k in (names_join s w.0 v.0, order_named o w.1 v.1)
named (by_interleave s o m k) = let w = named m in let v = named k in (names_join s w.0 v.0, shuffle_named o w.1 v.1)
named (by_element {d = d} {n = n} e h w m) = let v = named m in (tt, named_element (and_true (is_xml_name n) (covers d.class n) h).0 v.0 (weakly_named w v.1) named_nil)

-- ---- what is behind one event

pub enter_distinct : {l : List Name} {n : Name} {s : List Event} → IsDistinct l (Enter n ∷ s) → IsDistinct [] s
enter_distinct (distinct_enter c) = c

pub leave_distinct : {l : List Name} {s : List Event} → IsDistinct l (Leave ∷ s) → IsDistinct [] s
leave_distinct (distinct_leave c) = c

pub chars_distinct : {l : List Name} {t : List ℕ} {s : List Event} → IsDistinct l (Chars t ∷ s) → IsDistinct [] s
chars_distinct (distinct_chars c) = c

pub end_distinct : {l : List Name} {s : List Event} → IsDistinct l (TagEnd ∷ s) → IsDistinct [] s
end_distinct (distinct_tag_end c) = c

pub attribute_distinct : {n : Name} {v : List ℕ} {l : List Name} {s : List Event} → IsDistinct l (Att n v ∷ s) → (IsAmong n l → ⊥) × IsDistinct (n ∷ l) s
attribute_distinct (distinct_attribute f c) = (f, c)

pub distinct_of : {l : List Name} {s : List Event} → IsFresh l s → IsDistinct l s
distinct_of fresh_end = distinct_end
distinct_of (fresh_attribute w f c) = distinct_attribute f (distinct_of c)
distinct_of (fresh_enter w c) = distinct_enter (distinct_of c)
distinct_of (fresh_tag_end c) = distinct_tag_end (distinct_of c)
distinct_of (fresh_chars w c) = distinct_chars (distinct_of c)
distinct_of (fresh_leave c) = distinct_leave (distinct_of c)

text_of : (e : Event) → IsWritable e → IsText e
text_of (Enter n) w = tt
text_of (Att n v) w = (and_true _ _ w.1).0
text_of TagEnd w = tt
text_of (Chars t) w = (and_true _ _ w).0
text_of Leave w = tt

pub text_of_writable : (s : List Event) → AreWritable s → AreText s
text_of_writable [] w = tt
text_of_writable (e ∷ s) w = (text_of e w.0, text_of_writable s w.1)

-- ---- attributes

pub record AttributesApart (a : List Attribute) (l : List Name) (w : List Event) : Type 0 where
  pub proper : AreAttributes a
  pub apart : (n : Name) → HasAttribute n a → IsAmong n l → ⊥
  pub rest : IsDistinct [] w

pub attributes_apart : (a : List Attribute) (l : List Name) (w : List Event) → HaveNames a → IsDistinct l (attributes_flat a (TagEnd ∷ w)) → AttributesApart a l w
attributes_apart [] l w h c = record { proper = no_attributes; apart = λ n h k. elim h [ ]; rest = end_distinct c }
attributes_apart (x ∷ a) l w h c =
    let v = attribute_distinct c in
    let u = attributes_apart a (x.name ∷ l) w h.1 v.1 in
    record {
      proper = one_more h.0 (λ h. u.apart x.name h (first refl)) u.proper;
      apart = λ n h k. go v.0 u.apart n h k;
      rest = u.rest;
    }
  where
    go : (IsAmong x.name l → ⊥) → ((n : Name) → HasAttribute n a → IsAmong n (x.name ∷ l) → ⊥) → (n : Name) → HasAttribute n (x ∷ a) → IsAmong n l → ⊥
    go f h n (here e) k = f (rw e k)
    go f h n (further i) k = h n i (later k)

pub distinct_attributes_on : (a : List Attribute) (l : List Name) {w : List Event} → AreAttributes a → ((n : Name) → HasAttribute n a → IsAmong n l → ⊥) → IsDistinct [] w → IsDistinct l (attributes_flat a (TagEnd ∷ w))
distinct_attributes_on [] l d f c = distinct_tag_end c
distinct_attributes_on (x ∷ a) l (one_more u e d) f c =
    distinct_attribute (f x.name (here refl)) (distinct_attributes_on a (x.name ∷ l) d (λ n i k. go n i k) c)
  where
    go : (n : Name) → HasAttribute n a → IsAmong n (x.name ∷ l) → ⊥
    go n i (first k) = e (rw k i)
    go n i (later k) = f n (further i) k

-- ---- children

pub distinct_children : {k : Children} (l : List Name) {z : List Event} → AreChildren k → ((m : List Name) → IsDistinct m z) → IsDistinct l (children_flat k z)
distinct_children l no_children f = f l
distinct_children l (string_first p) f = distinct_chars (distinct_children [] p f)
distinct_children l (element_first {attributes = a} n d k p) f =
    distinct_enter (distinct_attributes_on a [] d (λ n h k. elim k [ ]) (distinct_children [] k (λ m. distinct_leave (distinct_children [] p f))))

pub children_distinct : (k : Children) (l : List Name) (z : List Event) → AreNamedChildren k → IsDistinct l (children_flat k z) → AreChildren k × ((m : List Name) × IsDistinct m z)
children_distinct nil l z h c = (no_children, (l, c))
children_distinct (string t k) l z (named_string h) c = let w = children_distinct k [] z h (chars_distinct c) in (string_first w.0, w.1)
children_distinct (element n a j k) l z (named_element x b i h) c =
    let u = attributes_apart a [] (children_flat j (Leave ∷ children_flat k z)) b (enter_distinct c) in
    let v = children_distinct j [] (Leave ∷ children_flat k z) i u.rest in
    let w = children_distinct k [] z h (leave_distinct v.1.1) in
    (element_first x u.proper v.0 w.0, w.1)

-- what can stand in a document has such names
proper_names : {a : List Attribute} → AreAttributes a → HaveNames a
proper_names no_attributes = tt
proper_names (one_more u e d) = (u, proper_names d)

pub proper_named : {k : Children} → AreChildren k → AreNamedChildren k
proper_named no_children = named_nil
proper_named (string_first p) = named_string (proper_named p)
proper_named (element_first n d k p) = named_element n (proper_names d) (proper_named k) (proper_named p)

pub past_attributes : (a : List Attribute) (l : List Name) (w : List Event) → IsDistinct l (attributes_flat a (TagEnd ∷ w)) → IsDistinct [] w
past_attributes [] l w c = end_distinct c
past_attributes (x ∷ a) l w c = past_attributes a (x.name ∷ l) w (attribute_distinct c).1

-- ---- lists put together

pub attributes_append : (a : List Attribute) (y z : List Event) → attributes_flat a y ++ z ≡ attributes_flat a (y ++ z)
attributes_append [] y z = refl
attributes_append (x ∷ a) y z = ap (λ (v : List Event). Att x.name x.value ∷ v) (attributes_append a y z)

pub children_append : (k : Children) (y z : List Event) → children_flat k y ++ z ≡ children_flat k (y ++ z)
children_append nil y z = refl
children_append (string t k) y z = ap (λ (v : List Event). Chars t ∷ v) (children_append k y z)
children_append (element n a j k) y z =
    ap (λ (v : List Event). Enter n ∷ v)
    (attributes_append a (TagEnd ∷ children_flat j (Leave ∷ children_flat k y)) z
    ∙ ap (λ (v : List Event). attributes_flat a (TagEnd ∷ v)) (children_append j (Leave ∷ children_flat k y) z ∙ ap (λ (v : List Event). children_flat j (Leave ∷ v)) (children_append k y z)))
