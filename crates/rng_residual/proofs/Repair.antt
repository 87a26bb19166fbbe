-- Attributes that a pattern matches can be chosen with distinct names.
use Rattle.std.proofs.Common.{◌≡◌, List, [], ◌∷◌, true, refl, sym, ap, subst, inl, inr, ◌⊎◌, ⊎_elim, ◌∙◌}
use Rattle.std.specs.Prelude.{IsTrue}
use Rattle.std.specs.List.{AllByRecursion}
use Rattle.nx_base.specs.declared.name.Name.{Name}
use Rattle.nx_base.specs.Characters.{is_of_chars}
use Rattle.nx_base.specs.Names.{is_attribute_name}
use Rattle.nx_base.specs.Trees.{Attribute, Children, nil, string, element, HasAttribute, here, further, AreAttributes, no_attributes, one_more}
use Rattle.rng_core.specs.Names.{Class, covers, has_attribute_name}
use Rattle.rng_core.specs.Patterns.{Pattern, Definition, empty, any_text, typed, literal, listed, ref, one_or_more, group, interleave}
use Rattle.rng_core.specs.Matching.{Split, no_attribute, to_first, to_second, InOrder, then_second, string_of_first, element_of_first, Matches, by_empty, by_text, by_data, by_value, by_list, by_attribute, by_blank_attribute, by_first, by_second, by_group, by_interleave, by_one, by_more, by_element}
use Rattle.rng_residual.proofs.SmallPatterns.{and_true, split_all, split_none as nothing_of}
use Rattle.rng_residual.proofs.Nullable.{true_or_left, true_or_right}
use Rattle.rng_kept.specs.Apart.{mentions, is_attribute_free, is_loose, IsApart, apart_free, apart_attribute, apart_one_or_more, apart_choice, apart_group, apart_interleave}

-- values of characters that XML allows
abbrev pub HaveChars : List Attribute → Type 0
HaveChars a = AllByRecursion (λ (x : Attribute). IsTrue (is_of_chars x.value)) a

pub chars_left : {a x y : List Attribute} → Split a x y → HaveChars a → HaveChars x
chars_left no_attribute h = tt
chars_left (to_first s) h = (h.0, chars_left s h.1)
chars_left (to_second s) h = chars_left s h.1

pub chars_right : {a x y : List Attribute} → Split a x y → HaveChars a → HaveChars y
chars_right no_attribute h = tt
chars_right (to_first s) h = chars_right s h.1
chars_right (to_second s) h = (h.0, chars_right s h.1)

pub chars_join : {a x y : List Attribute} → Split a x y → HaveChars x → HaveChars y → HaveChars a
chars_join no_attribute h k = tt
chars_join (to_first s) h k = (h.0, chars_join s h.1 k)
chars_join (to_second s) h k = (k.0, chars_join s h k.1)

-- names go along with splits
pub has_left : {n : Name} {a x y : List Attribute} → Split a x y → HasAttribute n x → HasAttribute n a
has_left no_attribute h = h
has_left (to_first s) (here e) = here e
has_left (to_first s) (further h) = further (has_left s h)
has_left (to_second s) h = further (has_left s h)

pub has_right : {n : Name} {a x y : List Attribute} → Split a x y → HasAttribute n y → HasAttribute n a
has_right no_attribute h = h
has_right (to_first s) h = further (has_right s h)
has_right (to_second s) (here e) = here e
has_right (to_second s) (further h) = further (has_right s h)

pub has_side : {n : Name} {a x y : List Attribute} → Split a x y → HasAttribute n a → HasAttribute n x ⊎ HasAttribute n y
has_side no_attribute h = elim h [ ]
has_side (to_first s) (here e) = inl (here e)
has_side (to_first s) (further h) = ⊎_elim (λ k. inl (further k)) (λ k. inr k) (has_side s h)
has_side (to_second s) (here e) = inr (here e)
has_side (to_second s) (further h) = ⊎_elim (λ k. inl k) (λ k. inr (further k)) (has_side s h)

pub distinct_left : {a x y : List Attribute} → Split a x y → AreAttributes a → AreAttributes x
distinct_left no_attribute d = no_attributes
distinct_left (to_first s) (one_more u no_more d) = one_more u (λ h. no_more (has_left s h)) (distinct_left s d)
distinct_left (to_second s) (one_more u no_more d) = distinct_left s d

pub distinct_right : {a x y : List Attribute} → Split a x y → AreAttributes a → AreAttributes y
distinct_right no_attribute d = no_attributes
distinct_right (to_first s) (one_more u no_more d) = distinct_right s d
distinct_right (to_second s) (one_more u no_more d) = one_more u (λ h. no_more (has_right s h)) (distinct_right s d)

pub distinct_join : {a x y : List Attribute} → Split a x y → AreAttributes x → AreAttributes y → ((n : Name) → HasAttribute n x → HasAttribute n y → ⊥) → AreAttributes a
distinct_join no_attribute d e f = no_attributes
distinct_join (to_first {a = z} s) (one_more u no_more d) e f =
    one_more u (λ h. ⊎_elim no_more (λ k. f z.name (here refl) k) (has_side s h)) (distinct_join s d e (λ n h k. f n (further h) k))
distinct_join (to_second {a = z} s) d (one_more u no_more e) f =
    one_more u (λ h. ⊎_elim (λ k. f z.name k (here refl)) no_more (has_side s h)) (distinct_join s d e (λ n h k. f n h (further k)))

-- two splits of one list, crossed
record Cross (a1 a2 b c : List Attribute) : Type 0 where
  b1 : List Attribute
  c1 : List Attribute
  b2 : List Attribute
  c2 : List Attribute
  left : Split a1 b1 c1
  right : Split a2 b2 c2
  kept : Split b b1 b2
  rest : Split c c1 c2

cross : {a a1 a2 b c : List Attribute} → Split a a1 a2 → Split a b c → Cross a1 a2 b c
cross no_attribute no_attribute = record { b1 = []; c1 = []; b2 = []; c2 = []; left = no_attribute; right = no_attribute; kept = no_attribute; rest = no_attribute }
cross (to_first {a = z} s) (to_first t) = let w = cross s t in record { b1 = z ∷ w.b1; c1 = w.c1; b2 = w.b2; c2 = w.c2; left = to_first w.left; right = w.right; kept = to_first w.kept; rest = w.rest }
cross (to_first {a = z} s) (to_second t) = let w = cross s t in record { b1 = w.b1; c1 = z ∷ w.c1; b2 = w.b2; c2 = w.c2; left = to_second w.left; right = w.right; kept = w.kept; rest = to_first w.rest }
cross (to_second {a = z} s) (to_first t) = let w = cross s t in record { b1 = w.b1; c1 = w.c1; b2 = z ∷ w.b2; c2 = w.c2; left = w.left; right = to_first w.right; kept = to_second w.kept; rest = w.rest }
cross (to_second {a = z} s) (to_second t) = let w = cross s t in record { b1 = w.b1; c1 = w.c1; b2 = w.b2; c2 = z ∷ w.c2; left = w.left; right = to_second w.right; kept = w.kept; rest = to_second w.rest }

-- two lists that go on from two parts of a list, put together so that they go on from the list
record Merge (x1 x2 b r1 r2 : List Attribute) : Type 0 where
  all : List Attribute
  other : List Attribute
  from : Split other r1 r2
  both : Split all x1 x2
  kept : Split all b other

merge : {x1 x2 b b1 b2 r1 r2 : List Attribute} → Split x1 b1 r1 → Split x2 b2 r2 → Split b b1 b2 → Merge x1 x2 b r1 r2
merge no_attribute no_attribute no_attribute = record { all = []; other = []; from = no_attribute; both = no_attribute; kept = no_attribute }
merge (to_second {a = z} s) t k = let w = merge s t k in record { all = z ∷ w.all; other = z ∷ w.other; from = to_first w.from; both = to_first w.both; kept = to_second w.kept }
merge no_attribute (to_second {a = z} t) k = let w = merge no_attribute t k in record { all = z ∷ w.all; other = z ∷ w.other; from = to_second w.from; both = to_second w.both; kept = to_second w.kept }
merge no_attribute (to_first {a = z} t) (to_second k) = let w = merge no_attribute t k in record { all = z ∷ w.all; other = w.other; from = w.from; both = to_second w.both; kept = to_first w.kept }
merge (to_first {a = z} s) t (to_first k) = let w = merge s t k in record { all = z ∷ w.all; other = w.other; from = w.from; both = to_first w.both; kept = to_first w.kept }
merge (to_first s) (to_first {a = z} t) (to_second k) = let w = merge (to_first s) t k in record { all = z ∷ w.all; other = w.other; from = w.from; both = to_second w.both; kept = to_first w.kept }
merge (to_first s) (to_second {a = z} t) (to_second k) = let w = merge (to_first s) t (to_second k) in record { all = z ∷ w.all; other = z ∷ w.other; from = to_second w.from; both = to_second w.both; kept = to_second w.kept }

named_by : (class : Class) (n : Name) → has_attribute_name class n ≡ true → IsTrue (is_attribute_name n)
named_by class n h = (and_true (is_attribute_name n) (covers class n) h).0

-- the name of an attribute that is matched stands in the pattern
has_mentions : {g : List Definition} {p : Pattern} {n : Name} {a : List Attribute} {c : Children} → Matches g p a c → HasAttribute n a → mentions p n ≡ true
has_mentions (by_attribute {class = k} f m) (here e) = rw (← e) f
has_mentions (by_attribute f m) (further h) = elim h [ ]
has_mentions (by_blank_attribute {class = k} f b m) (here e) = rw (← e) f
has_mentions (by_blank_attribute f b m) (further h) = elim h [ ]
has_mentions {n = n} (by_first {p = p} {q = q} m) h = true_or_left (mentions p n) (mentions q n) (has_mentions m h)
has_mentions {n = n} (by_second {p = p} {q = q} m) h = true_or_right (mentions p n) (mentions q n) (has_mentions m h)
has_mentions {n = n} (by_group {p = p} {q = q} s o m k) h =
    ⊎_elim (λ i. true_or_left (mentions p n) (mentions q n) (has_mentions m i)) (λ i. true_or_right (mentions p n) (mentions q n) (has_mentions k i)) (has_side s h)
has_mentions {n = n} (by_interleave {p = p} {q = q} s o m k) h =
    ⊎_elim (λ i. true_or_left (mentions p n) (mentions q n) (has_mentions m i)) (λ i. true_or_right (mentions p n) (mentions q n) (has_mentions k i)) (has_side s h)
has_mentions (by_one m) h = has_mentions m h
has_mentions (by_more s o m k) h = ⊎_elim (λ i. has_mentions m i) (λ i. has_mentions k i) (has_side s h)
has_mentions by_empty h = elim h [ ]
has_mentions (by_text s) h = elim h [ ]
has_mentions (by_data a d) h = elim h [ ]
has_mentions (by_value a d) h = elim h [ ]
has_mentions (by_list m) h = elim h [ ]
has_mentions (by_element e f w m) h = elim h [ ]

-- and attributes can have it
pub attribute_named : {g : List Definition} {p : Pattern} {n : Name} {a : List Attribute} {c : Children} → Matches g p a c → HasAttribute n a → IsTrue (is_attribute_name n)
attribute_named (by_attribute {class = k} f m) (here e) = rw (← e) (named_by k _ f)
attribute_named (by_attribute f m) (further h) = elim h [ ]
attribute_named (by_blank_attribute {class = k} f b m) (here e) = rw (← e) (named_by k _ f)
attribute_named (by_blank_attribute f b m) (further h) = elim h [ ]
attribute_named (by_first m) h = attribute_named m h
attribute_named (by_second m) h = attribute_named m h
attribute_named (by_group s o m k) h = ⊎_elim (λ i. attribute_named m i) (λ i. attribute_named k i) (has_side s h)
attribute_named (by_interleave s o m k) h = ⊎_elim (λ i. attribute_named m i) (λ i. attribute_named k i) (has_side s h)
attribute_named (by_one m) h = attribute_named m h
attribute_named (by_more s o m k) h = ⊎_elim (λ i. attribute_named m i) (λ i. attribute_named k i) (has_side s h)
attribute_named by_empty h = elim h [ ]
attribute_named (by_text s) h = elim h [ ]
attribute_named (by_data a d) h = elim h [ ]
attribute_named (by_value a d) h = elim h [ ]
attribute_named (by_list m) h = elim h [ ]
attribute_named (by_element e f w m) h = elim h [ ]

split_none : {a x y : List Attribute} → Split a x y → x ≡ [] → y ≡ [] → a ≡ []
split_none no_attribute e f = refl
split_none (to_first s) e f = cc
split_none (to_second s) e f = cc

split_of_none : {a x y : List Attribute} → Split a x y → a ≡ [] → x ≡ []
split_of_none no_attribute e = refl
split_of_none (to_first s) e = cc
split_of_none (to_second s) e = cc

-- a pattern with no attribute takes none
takes_none : {g : List Definition} {p : Pattern} {a : List Attribute} {c : Children} → Matches g p a c → is_attribute_free p ≡ true → a ≡ []
takes_none by_empty f = refl
takes_none (by_text s) f = refl
takes_none (by_data a d) f = refl
takes_none (by_value a d) f = refl
takes_none (by_list m) f = refl
takes_none (by_attribute h m) f = cc
takes_none (by_blank_attribute h b m) f = cc
takes_none (by_first {p = p} {q = q} m) f = takes_none m (and_true (is_attribute_free p) (is_attribute_free q) f).0
takes_none (by_second {p = p} {q = q} m) f = takes_none m (and_true (is_attribute_free p) (is_attribute_free q) f).1
takes_none (by_group {p = p} {q = q} s o m k) f = let e = and_true (is_attribute_free p) (is_attribute_free q) f in split_none s (takes_none m e.0) (takes_none k e.1)
takes_none (by_interleave {p = p} {q = q} s o m k) f = let e = and_true (is_attribute_free p) (is_attribute_free q) f in split_none s (takes_none m e.0) (takes_none k e.1)
takes_none (by_one m) f = takes_none m f
takes_none (by_more s o m k) f = split_none s (takes_none m f) (takes_none k f)
takes_none (by_element e h w m) f = refl

order_none : {a x y : Children} → InOrder a x y → x ≡ nil → y ≡ nil → a ≡ nil
order_none then_second e f = f
order_none (string_of_first o) e f = cc
order_none (element_of_first o) e f = cc

order_right : {a x y : Children} → InOrder a x y → x ≡ nil → a ≡ y
order_right then_second e = refl
order_right (string_of_first o) e = cc
order_right (element_of_first o) e = cc

order_left : {a x y : Children} → InOrder a x y → y ≡ nil → a ≡ x
order_left then_second e = e
order_left (string_of_first {text = t} o) e = ap (λ v. string t v) (order_left o e)
order_left (element_of_first {n = n} {a = a} {k = k} o) e = ap (λ v. element n a k v) (order_left o e)

pub splits_right : {a x y : List Attribute} → Split a x y → x ≡ [] → a ≡ y
splits_right no_attribute e = refl
splits_right (to_first s) e = cc
splits_right (to_second {a = z} s) e = ap (λ v. z ∷ v) (splits_right s e)

splits_left : {a x y : List Attribute} → Split a x y → y ≡ [] → a ≡ x
splits_left no_attribute e = refl
splits_left (to_second s) e = cc
splits_left (to_first {a = z} s) e = ap (λ v. z ∷ v) (splits_left s e)

along : {g : List Definition} (p : Pattern) {a b : List Attribute} {c k : Children} → b ≡ a → k ≡ c → Matches g p a c → Matches g p b k
along {g = g} p e f m = rw (e, f) m

-- nothing at all, or what a pattern matches
abbrev Exact : List Definition → Pattern → List Attribute → Children → Type 0
Exact g p b c = ((b ≡ []) × (c ≡ nil)) ⊎ Matches g p b c

-- below a repetition, some of the attributes are taken with no others
exact_again : {g : List Definition} (p : Pattern) {b b1 b2 : List Attribute} {c c1 c2 : Children} → Split b b1 b2 → InOrder c c1 c2 → Exact g p b1 c1 → Exact g (one_or_more p) b2 c2 → Exact g (one_or_more p) b c
exact_again p s o (inl e) (inl f) = inl (split_none s e.0 f.0, order_none o e.1 f.1)
exact_again p s o (inl e) (inr w) = inr (along (one_or_more p) (splits_right s e.0) (order_right o e.1) w)
exact_again p s o (inr w) (inl f) = inr (along (one_or_more p) (splits_left s f.0) (order_left o f.1) (by_one w))
exact_again p s o (inr w) (inr v) = inr (by_more s o w v)

exact_none : {g : List Definition} (p : Pattern) {a b r : List Attribute} {c : Children} → Matches g p a c → a ≡ [] → Split a b r → Exact g p b c
exact_none p m e s = inr (along p (split_of_none s e ∙ sym e) refl m)

exact : {g : List Definition} (p : Pattern) {a b r : List Attribute} {c : Children} → Matches g p a c → is_loose p ≡ true → Split a b r → Exact g p b c
exact _ by_empty f s = exact_none empty by_empty refl s
exact _ (by_text t) f s = exact_none any_text (by_text t) refl s
exact _ (by_data {type = t} {excepts = e} a d) f s = exact_none (typed t e) (by_data a d) refl s
exact _ (by_value {type = t} {wanted = v} a d) f s = exact_none (literal t v) (by_value a d) refl s
exact _ (by_list {p = p} m) f s = exact_none (listed p) (by_list m) refl s
exact _ (by_element {i = i} e h w m) f s = exact_none (ref i) (by_element e h w m) refl s
exact _ (by_attribute h m) f (to_first no_attribute) = inr (by_attribute h m)
exact _ (by_attribute h m) f (to_second no_attribute) = inl (refl, refl)
exact _ (by_blank_attribute h b m) f (to_first no_attribute) = inr (by_blank_attribute h b m)
exact _ (by_blank_attribute h b m) f (to_second no_attribute) = inl (refl, refl)
exact _ (by_first {p = p} {q = q} m) f s =
    ⊎_elim (λ e. inl e) (λ w. inr (by_first w)) (exact p m (and_true (is_loose p) (is_loose q) f).0 s)
exact _ (by_second {p = p} {q = q} m) f s =
    ⊎_elim (λ e. inl e) (λ w. inr (by_second w)) (exact q m (and_true (is_loose p) (is_loose q) f).1 s)
exact _ (by_group {p = p} {q = q} t o m k) f s =
    let e = and_true (is_attribute_free p) (is_attribute_free q) f in exact_none (group p q) (by_group t o m k) (split_none t (takes_none m e.0) (takes_none k e.1)) s
exact _ (by_interleave {p = p} {q = q} t o m k) f s =
    let e = and_true (is_attribute_free p) (is_attribute_free q) f in exact_none (interleave p q) (by_interleave t o m k) (split_none t (takes_none m e.0) (takes_none k e.1)) s
exact _ (by_one {p = p} m) f s = ⊎_elim (λ e. inl e) (λ w. inr (by_one w)) (exact p m f s)
exact _ (by_more {p = p} t o m k) f s = let w = cross t s in exact_again p w.kept o (exact p m f w.left) (exact (one_or_more p) k f w.right)

pub record Repaired (g : List Definition) (p : Pattern) (b r : List Attribute) (c : Children) : Type 0 where
  pub all : List Attribute
  pub other : List Attribute
  pub split : Split all b other
  pub distinct : AreAttributes all
  pub matched : Matches g p all c
  pub fewer : (n : Name) → HasAttribute n other → HasAttribute n r
  pub chars : HaveChars r → HaveChars other

front_none : {a x y : Children} → InOrder a x y → a ≡ nil → x ≡ nil
front_none then_second e = refl
front_none (string_of_first o) e = cc
front_none (element_of_first o) e = cc

pub single : (x : Attribute) → IsTrue (is_attribute_name x.name) → AreAttributes (x ∷ [])
single x u = one_more u (λ h. elim h [ ]) no_attributes

-- of some distinct attributes that a pattern takes with others, it takes them with others of distinct names
pub repair : {g : List Definition} {p : Pattern} {a b r : List Attribute} {c : Children} → Matches g p a c → IsApart p → Split a b r → AreAttributes b → Repaired g p b r c
repair {a = a} {r = r} m (apart_free f) s d =
    let e = takes_none m f in
    record { all = a; other = r; split = s; distinct = rw e no_attributes; matched = m; fewer = λ n h. h; chars = λ h. h }
repair {r = r} (by_attribute {class = k} {a = x} h m) apart_attribute s d = record { all = x ∷ []; other = r; split = s; distinct = single x (named_by k x.name h); matched = by_attribute h m; fewer = λ n h. h; chars = λ h. h }
repair {r = r} (by_blank_attribute {class = k} {a = x} h b m) apart_attribute s d = record { all = x ∷ []; other = r; split = s; distinct = single x (named_by k x.name h); matched = by_blank_attribute h b m; fewer = λ n h. h; chars = λ h. h }
repair (by_first m) (apart_choice i j) s d =
    let w = repair m i s d in record { all = w.all; other = w.other; split = w.split; distinct = w.distinct; matched = by_first w.matched; fewer = w.fewer; chars = w.chars }
repair (by_second m) (apart_choice i j) s d =
    let w = repair m j s d in record { all = w.all; other = w.other; split = w.split; distinct = w.distinct; matched = by_second w.matched; fewer = w.fewer; chars = w.chars }
repair (by_group t o m k) (apart_group i j f) s d =
    let x = cross t s in
    let w = repair m i x.left (distinct_left x.kept d) in
    let v = repair k j x.right (distinct_right x.kept d) in
    let u = merge w.split v.split x.kept in
    record {
      all = u.all;
      other = u.other;
      split = u.kept;
      distinct = distinct_join u.both w.distinct v.distinct (λ n h l. f n (has_mentions w.matched h) (has_mentions v.matched l));
      matched = by_group u.both o w.matched v.matched;
      fewer = λ n h. ⊎_elim (λ k. has_left x.rest (w.fewer n k)) (λ k. has_right x.rest (v.fewer n k)) (has_side u.from h);
      chars = λ h. chars_join u.from (w.chars (chars_left x.rest h)) (v.chars (chars_right x.rest h));
    }
repair (by_interleave t o m k) (apart_interleave i j f) s d =
    let x = cross t s in
    let w = repair m i x.left (distinct_left x.kept d) in
    let v = repair k j x.right (distinct_right x.kept d) in
    let u = merge w.split v.split x.kept in
    record {
      all = u.all;
      other = u.other;
      split = u.kept;
      distinct = distinct_join u.both w.distinct v.distinct (λ n h l. f n (has_mentions w.matched h) (has_mentions v.matched l));
      matched = by_interleave u.both o w.matched v.matched;
      fewer = λ n h. ⊎_elim (λ k. has_left x.rest (w.fewer n k)) (λ k. has_right x.rest (v.fewer n k)) (has_side u.from h);
      chars = λ h. chars_join u.from (w.chars (chars_left x.rest h)) (v.chars (chars_right x.rest h));
    }
repair (by_one m) (apart_one_or_more f i) s d =
    let w = repair m i s d in record { all = w.all; other = w.other; split = w.split; distinct = w.distinct; matched = by_one w.matched; fewer = w.fewer; chars = w.chars }
repair {b = b} {c = c} (by_more {p = p} {a1 = a1} t o m k) (apart_one_or_more f i) s d =
    let x = cross t s in
    let first = repair m i (nothing_of a1) no_attributes in
    ⊎_elim {A = (b ≡ []) × (c ≡ nil)}
    (λ e.
    record {
      all = first.all;
      other = first.all;
      split = rw e.0 (nothing_of first.all);
      distinct = first.distinct;
      matched = along (one_or_more p) refl (e.1 ∙ sym (front_none o e.1)) (by_one first.matched);
      fewer = λ n h. subst (λ v. HasAttribute n v) (splits_right s e.0) (has_left t (first.fewer n (subst (λ v. HasAttribute n v) (splits_right first.split refl) h)));
      chars = λ h. rw (splits_right first.split refl) (first.chars (chars_left t (subst (λ v. HaveChars v) (sym (splits_right s e.0)) h)));
    })
    (λ w. record { all = b; other = []; split = split_all b; distinct = d; matched = w; fewer = λ n h. elim h [ ]; chars = λ h. tt })
    (exact_again p x.kept o (exact p m f x.left) (exact (one_or_more p) k f x.right))

pub distinct_apart2 : {n : Name} {a x y : List Attribute} → Split a x y → AreAttributes a → HasAttribute n x → HasAttribute n y → ⊥
distinct_apart2 no_attribute d h k = elim h [ ]
distinct_apart2 (to_first s) (one_more u f d) (here e) k = f (rw e (has_right s k))
distinct_apart2 (to_first s) (one_more u f d) (further h) k = distinct_apart2 s d h k
distinct_apart2 (to_second s) (one_more u f d) h (here e) = f (rw e (has_left s h))
distinct_apart2 (to_second s) (one_more u f d) h (further k) = distinct_apart2 s d h k
