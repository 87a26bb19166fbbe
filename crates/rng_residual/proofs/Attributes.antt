-- What is left behind an attribute matches exactly the rest.
use Rattle.std.proofs.Common.{◌≡◌, ℕ, List, [], ◌∷◌, Bool, true, ◌&&◌, refl, subst, ⊎_elim}
use Rattle.nx_base.specs.declared.name.Name.{Name}
use Rattle.nx_base.specs.Characters.{is_blank}
use Rattle.nx_base.specs.Trees.{Attribute, Children, nil, string}
use Rattle.rng_core.specs.Names.{Class, has_attribute_name}
use Rattle.rng_core.specs.Patterns.{Pattern, Definition, not_allowed, empty, any_text, typed, literal, listed, attribute, ref, one_or_more, choice, group, interleave}
use Rattle.rng_core.specs.Matching.{Split, no_attribute, to_first, to_second, InOrder, then_second, Shuffle, Matches, by_empty, by_first, by_second, by_group, by_interleave, by_one, by_more, by_attribute, by_blank_attribute}
use Rattle.rng_kept.specs.SmallPatterns.{is_empty, group_of, interleave_of, star}
use Rattle.rng_kept.specs.Nullable.{nullable}
use Rattle.rng_kept.specs.Lists.{has_flat_lists}
use Rattle.rng_residual.proofs.SmallPatterns.{or_same, seq_same, mix_same, or_sides, by_test, or_true, and_true, never_no, is_empty-is, nothing_inv, order_all, order_all_is, order_none_is, split_all, split_none, split_all_is, split_none_is, along}
use Rattle.rng_residual.proofs.Nullable.{nullable_in, nullable_out, more, star_in, star_none, star_out, true_and, true_or_left, true_or_right}
use Rattle.rng_kept.specs.Strings.{after}
use Rattle.rng_kept.specs.Attributes.{value_fits, around, attribute_by, after_attribute}
use Rattle.rng_residual.specs.Derivatives.{DerivesAttributes}
use Rattle.rng_residual.proofs.Strings.{after_in, after_out, when_true}
use Rattle.rng_residual.proofs.Splits.{split_assoc, order_assoc}

module _ {g : List Definition} where
  pub star_more : (p : Pattern) {a a1 a2 : List Attribute} {c c1 c2 : Children} → Matches g (star p) a1 c1 → Split a a1 a2 → InOrder c c1 c2 → Matches g (one_or_more p) a2 c2 → Matches g (one_or_more p) a c
  star_more p {a = a} {a2 = a2} {c = c} {c2 = c2} m s o n =
      ⊎_elim (λ h. more h s o n)
      (λ h. let e = nothing_inv h in along (one_or_more p) _ _ _ _ (split_none_is (subst (λ v. Split a v a2) e.0 s)) (order_none_is (subst (λ v. InOrder c v c2) e.1 o)) n)
      (star_out m)

  star_star : (p : Pattern) {a a1 a2 : List Attribute} {c c1 c2 : Children} → Matches g (star p) a1 c1 → Split a a1 a2 → InOrder c c1 c2 → Matches g (star p) a2 c2 → Matches g (star p) a c
  star_star p {a = a} {a1 = a1} {c = c} {c1 = c1} m s o n =
      ⊎_elim (λ h. star_in (star_more p m s o h))
      (λ h. let e = nothing_inv h in along (star p) _ _ _ _ (split_all_is (subst (λ v. Split a a1 v) e.0 s)) (order_all_is (subst (λ v. InOrder c c1 v) e.1 o)) m)
      (star_out n)

  pub part_star : (p : Pattern) {a a1 a2 : List Attribute} {c c1 c2 : Children} → Matches g p a1 c1 → Split a a1 a2 → InOrder c c1 c2 → Matches g (star p) a2 c2 → Matches g (one_or_more p) a c
  part_star p {a = a} {a1 = a1} {c = c} {c1 = c1} m s o n =
      ⊎_elim (λ h. by_more s o m h)
      (λ h. let e = nothing_inv h in along (one_or_more p) _ _ _ _ (split_all_is (subst (λ v. Split a a1 v) e.0 s)) (order_all_is (subst (λ v. InOrder c c1 v) e.1 o)) (by_one m))
      (star_out n)

-- something with repetitions before it and after it
pub record Surrounded (g : List Definition) (d p : Pattern) (a : List Attribute) (c : Children) : Type 0 where
  pub a1 : List Attribute
  pub a23 : List Attribute
  pub a2 : List Attribute
  pub a3 : List Attribute
  pub c1 : Children
  pub c23 : Children
  pub c2 : Children
  pub c3 : Children
  pub split : Split a a1 a23
  pub split2 : Split a23 a2 a3
  pub order : InOrder c c1 c23
  pub order2 : InOrder c23 c2 c3
  pub before : Matches g (star p) a1 c1
  pub middle : Matches g d a2 c2
  pub behind : Matches g (star p) a3 c3

pub around_in : {g : List Definition} (d p : Pattern) {a : List Attribute} {c : Children} → Surrounded g d p a c → Matches g (around d p) a c
around_in {g = g} d p {a = a} {c = c} w =
    by_test (λ r. Matches g r a c) (is_empty d) (star p) (group_of (star p) (group_of d (star p)))
    (λ h.
    let m : Matches g empty w.a2 w.c2 = rw (← is_empty-is d h) w.middle in
    let e = nothing_inv m in
    let s = split_none_is (subst (λ v. Split w.a23 v w.a3) e.0 w.split2) in
    let o = order_none_is (subst (λ v. InOrder w.c23 v w.c3) e.1 w.order2) in
    star_star p w.before w.split w.order (along (star p) _ _ _ _ s o w.behind))
    (λ _. (seq_same g (star p) (group_of d (star p))).from (by_group w.split w.order w.before ((seq_same g d (star p)).from (by_group w.split2 w.order2 w.middle w.behind))))

pub around_out : {g : List Definition} (d p : Pattern) {a : List Attribute} {c : Children} → Matches g (around d p) a c → Surrounded g d p a c
around_out {g = g} d p {a = a} {c = c} n =
    by_test (λ r. Matches g r a c → Surrounded g d p a c) (is_empty d) (star p) (group_of (star p) (group_of d (star p)))
    (λ h m. record {
      a1 = a;
      a23 = [];
      a2 = [];
      a3 = [];
      c1 = c;
      c23 = nil;
      c2 = nil;
      c3 = nil;
      split = split_all a;
      split2 = no_attribute;
      order = order_all c;
      order2 = then_second;
      before = m;
      middle = rw (is_empty-is d h) by_empty;
      behind = star_none p;
    })
    (λ _ m. outer ((seq_same g (star p) (group_of d (star p))).to m))
    n
  where
    inner : {a1 a23 : List Attribute} {c1 c23 : Children} → Split a a1 a23 → InOrder c c1 c23 → Matches g (star p) a1 c1 → Matches g (group d (star p)) a23 c23 → Surrounded g d p a c
    inner {a1 = a1} {a23 = a23} {c1 = c1} {c23 = c23} s o m (by_group {a1 = a2} {a2 = a3} {c1 = c2} {c2 = c3} t u n k) = record {
      a1 = a1;
      a23 = a23;
      a2 = a2;
      a3 = a3;
      c1 = c1;
      c23 = c23;
      c2 = c2;
      c3 = c3;
      split = s;
      split2 = t;
      order = o;
      order2 = u;
      before = m;
      middle = n;
      behind = k;
    }

    outer : Matches g (group (star p) (group_of d (star p))) a c → Surrounded g d p a c
    outer (by_group s o m n) = inner s o m ((seq_same g d (star p)).to n)

abbrev pub attribute_is : Name → List ℕ → Attribute
attribute_is n v = record { name = n; value = v }

-- the test passes each pattern that takes the value
pub record FitsIn (g : List Definition) (fits : Pattern → Bool) (v : List ℕ) : Type 0 where
  pub text_in : (p : Pattern) → has_flat_lists p ≡ true → Matches g p [] (string v nil) → fits p ≡ true
  pub blank_in : (p : Pattern) → is_blank v ≡ true → Matches g p [] nil → fits p ≡ true

-- an attribute of the name with some such value is matched, and then the rest
pub record OneAttribute (g : List Definition) (ok : List ℕ → Type 0) (n : Name) (p : Pattern) (a : List Attribute) (c : Children) : Type 0 where
  pub value : List ℕ
  pub is_ok : ok value
  pub matched : Matches g p (attribute_is n value ∷ a) c

-- each pattern that the test passes takes such a value
pub record FitsOut (g : List Definition) (ok : List ℕ → Type 0) (fits : Pattern → Bool) : Type 0 where
  pub value_out : (class : Class) (n : Name) (p : Pattern) → has_attribute_name class n ≡ true → fits p ≡ true → OneAttribute g ok n (attribute class p) [] nil

module _ {g : List Definition} (d p : Pattern) where
  alone_in : {a : List Attribute} {c : Children} → Matches g d a c → Surrounded g d p a c
  alone_in {a = a} {c = c} m = record {
    a1 = [];
    a23 = a;
    a2 = a;
    a3 = [];
    c1 = nil;
    c23 = c;
    c2 = c;
    c3 = nil;
    split = split_none a;
    split2 = split_all a;
    order = then_second;
    order2 = order_all c;
    before = star_none p;
    middle = m;
    behind = star_none p;
  }

  first_in : {a y z : List Attribute} {c c1 c2 : Children} → Split a y z → InOrder c c1 c2 → Matches g d y c1 → Matches g (one_or_more p) z c2 → Surrounded g d p a c
  first_in {a = a} {y = y} {z = z} {c = c} {c1 = c1} {c2 = c2} s o m k = record {
    a1 = [];
    a23 = a;
    a2 = y;
    a3 = z;
    c1 = nil;
    c23 = c;
    c2 = c1;
    c3 = c2;
    split = split_none a;
    split2 = s;
    order = then_second;
    order2 = o;
    before = star_none p;
    middle = m;
    behind = star_in k;
  }

  later_in : {a y z : List Attribute} {c c1 c2 : Children} → Split a y z → InOrder c c1 c2 → Matches g p y c1 → Matches g (around d p) z c2 → Surrounded g d p a c
  later_in s o m k =
      let w = around_out d p k in
      let v = split_assoc s w.split in
      let u = order_assoc o w.order in
      record {
        a1 = v.front;
        a23 = w.a23;
        a2 = w.a2;
        a3 = w.a3;
        c1 = u.front;
        c23 = w.c23;
        c2 = w.c2;
        c3 = w.c3;
        split = v.outer;
        split2 = w.split2;
        order = u.outer;
        order2 = w.order2;
        before = star_in (part_star p m v.inner u.inner w.before);
        middle = w.middle;
        behind = w.behind;
      }

module _ {g : List Definition} {fits : Pattern → Bool} {n : Name} where
  pub attribute_in : {v : List ℕ} {p : Pattern} {a : List Attribute} {c : Children} → FitsIn g fits v → has_flat_lists p ≡ true → Matches g p (attribute_is n v ∷ a) c → Matches g (attribute_by fits n p) a c
  attribute_in l f (by_attribute {class = class} {p = p} h m) = rw (true_and (has_attribute_name class n) (fits p) h (l.text_in p f m)) by_empty
  attribute_in l f (by_blank_attribute {class = class} {p = p} h b m) = rw (true_and (has_attribute_name class n) (fits p) h (l.blank_in p b m)) by_empty
  attribute_in l f (by_first {p = p} {q = q} m) = (or_same g (attribute_by fits n p) (attribute_by fits n q)).from (by_first (attribute_in l (and_true _ _ f).0 m))
  attribute_in l f (by_second {p = p} {q = q} m) = (or_same g (attribute_by fits n p) (attribute_by fits n q)).from (by_second (attribute_in l (and_true _ _ f).1 m))
  attribute_in l f (by_group {p = p} {q = q} (to_first s) o m k) =
      (or_same g (group_of (attribute_by fits n p) q) (group_of p (attribute_by fits n q))).from (by_first ((seq_same g (attribute_by fits n p) q).from (by_group s o (attribute_in l (and_true _ _ f).0 m) k)))
  attribute_in l f (by_group {p = p} {q = q} (to_second s) o m k) =
      (or_same g (group_of (attribute_by fits n p) q) (group_of p (attribute_by fits n q))).from (by_second ((seq_same g p (attribute_by fits n q)).from (by_group s o m (attribute_in l (and_true _ _ f).1 k))))
  attribute_in l f (by_interleave {p = p} {q = q} (to_first s) o m k) =
      (or_same g (interleave_of (attribute_by fits n p) q) (interleave_of p (attribute_by fits n q))).from (by_first ((mix_same g (attribute_by fits n p) q).from (by_interleave s o (attribute_in l (and_true _ _ f).0 m) k)))
  attribute_in l f (by_interleave {p = p} {q = q} (to_second s) o m k) =
      (or_same g (interleave_of (attribute_by fits n p) q) (interleave_of p (attribute_by fits n q))).from (by_second ((mix_same g p (attribute_by fits n q)).from (by_interleave s o m (attribute_in l (and_true _ _ f).1 k))))
  attribute_in l f (by_one {p = p} m) = around_in (attribute_by fits n p) p (alone_in (attribute_by fits n p) p (attribute_in l f m))
  attribute_in l f (by_more {p = p} (to_first s) o m k) = around_in (attribute_by fits n p) p (first_in (attribute_by fits n p) p s o (attribute_in l f m) k)
  attribute_in l f (by_more {p = p} (to_second s) o m k) = around_in (attribute_by fits n p) p (later_in (attribute_by fits n p) p s o m (attribute_in l f k))

-- the parts of what a group and an interleave match
pub record GroupParts (g : List Definition) (p q : Pattern) (a : List Attribute) (c : Children) : Type 0 where
  pub a1 : List Attribute
  pub a2 : List Attribute
  pub c1 : Children
  pub c2 : Children
  pub split : Split a a1 a2
  pub order : InOrder c c1 c2
  pub left : Matches g p a1 c1
  pub right : Matches g q a2 c2

pub parts_of_group : {g : List Definition} {p q : Pattern} {a : List Attribute} {c : Children} → Matches g (group p q) a c → GroupParts g p q a c
parts_of_group (by_group {a1 = a1} {a2 = a2} {c1 = c1} {c2 = c2} s o m n) = record { a1 = a1; a2 = a2; c1 = c1; c2 = c2; split = s; order = o; left = m; right = n }

pub record InterleaveParts (g : List Definition) (p q : Pattern) (a : List Attribute) (c : Children) : Type 0 where
  pub a1 : List Attribute
  pub a2 : List Attribute
  pub c1 : Children
  pub c2 : Children
  pub split : Split a a1 a2
  pub shuffle : Shuffle c c1 c2
  pub left : Matches g p a1 c1
  pub right : Matches g q a2 c2

pub parts_of_interleave : {g : List Definition} {p q : Pattern} {a : List Attribute} {c : Children} → Matches g (interleave p q) a c → InterleaveParts g p q a c
parts_of_interleave (by_interleave {a1 = a1} {a2 = a2} {c1 = c1} {c2 = c2} s o m n) = record { a1 = a1; a2 = a2; c1 = c1; c2 = c2; split = s; shuffle = o; left = m; right = n }

pub attribute_map : {g : List Definition} {ok : List ℕ → Type 0} {n : Name} {p q : Pattern} {a b : List Attribute} {c d : Children} →
    ((x : Attribute) → Matches g p (x ∷ a) c → Matches g q (x ∷ b) d) → OneAttribute g ok n p a c → OneAttribute g ok n q b d
attribute_map {n = n} f w = record { value = w.value; is_ok = w.is_ok; matched = f (attribute_is n w.value) w.matched }

pub attribute_alone : {g : List Definition} {ok : List ℕ → Type 0} {n : Name} {p : Pattern} {a : List Attribute} {c : Children} → a ≡ [] → c ≡ nil → OneAttribute g ok n p [] nil → OneAttribute g ok n p a c
attribute_alone {g = g} {ok = ok} {n = n} {p = p} e f w = rw (e, f) w

module _ {g : List Definition} {ok : List ℕ → Type 0} {fits : Pattern → Bool} {n : Name} where
  pub attribute_out : FitsOut g ok fits → (p : Pattern) {a : List Attribute} {c : Children} → Matches g (attribute_by fits n p) a c → OneAttribute g ok n p a c
  attribute_out l (attribute class p) m =
      let w = when_true (has_attribute_name class n && fits p) m in
      let v = and_true (has_attribute_name class n) (fits p) w.0 in
      let e = nothing_inv w.1 in
      attribute_alone e.0 e.1 (l.value_out class n p v.0 v.1)
  attribute_out l (one_or_more p) m =
      let w = around_out (attribute_by fits n p) p m in
      attribute_map (λ x k. star_more p w.before (to_second w.split) w.order (part_star p k (to_first w.split2) w.order2 w.behind)) (attribute_out l p w.middle)
  attribute_out l (choice p q) m =
      ⊎_elim (λ x. attribute_map (λ _ k. by_first k) (attribute_out l p x)) (λ x. attribute_map (λ _ k. by_second k) (attribute_out l q x)) (or_sides ((or_same g (attribute_by fits n p) (attribute_by fits n q)).to m))
  attribute_out l (group p q) m =
      ⊎_elim
      (λ x. let w = parts_of_group ((seq_same g (attribute_by fits n p) q).to x) in attribute_map (λ _ k. by_group (to_first w.split) w.order k w.right) (attribute_out l p w.left))
      (λ x. let w = parts_of_group ((seq_same g p (attribute_by fits n q)).to x) in attribute_map (λ _ k. by_group (to_second w.split) w.order w.left k) (attribute_out l q w.right))
      (or_sides ((or_same g (group_of (attribute_by fits n p) q) (group_of p (attribute_by fits n q))).to m))
  attribute_out l (interleave p q) m =
      ⊎_elim
      (λ x. let w = parts_of_interleave ((mix_same g (attribute_by fits n p) q).to x) in attribute_map (λ _ k. by_interleave (to_first w.split) w.shuffle k w.right) (attribute_out l p w.left))
      (λ x. let w = parts_of_interleave ((mix_same g p (attribute_by fits n q)).to x) in attribute_map (λ _ k. by_interleave (to_second w.split) w.shuffle w.left k) (attribute_out l q w.right))
      (or_sides ((or_same g (interleave_of (attribute_by fits n p) q) (interleave_of p (attribute_by fits n q))).to m))
  attribute_out l not_allowed m = never_no m
  attribute_out l empty m = never_no m
  attribute_out l any_text m = never_no m
  attribute_out l (typed t e) m = never_no m
  attribute_out l (literal t v) m = never_no m
  attribute_out l (listed p) m = never_no m
  attribute_out l (ref i) m = never_no m

-- ---- this value

this_value_in : (g : List Definition) (v : List ℕ) → FitsIn g (value_fits v) v
this_value_in g v = record {
  text_in = λ p f m. true_or_left (nullable (after v p)) _ (nullable_in (after_in f m));
  blank_in = λ p b m. true_or_right (nullable (after v p)) _ (true_and _ _ b (nullable_in m));
}

this_value_out : (g : List Definition) (v : List ℕ) → FitsOut g (λ u. v ≡ u) (value_fits v)
this_value_out g v = record {
  value_out = λ class n p h f. record { value = v; is_ok = refl; matched = go class n p h f };
}
  where
    go : (class : Class) (n : Name) (p : Pattern) → has_attribute_name class n ≡ true → value_fits v p ≡ true → Matches g (attribute class p) (attribute_is n v ∷ []) nil
    go class n p h f =
        ⊎_elim (λ e. by_attribute h (after_out p (nullable_out (after v p) e)))
        (λ e. let w = and_true (is_blank v) (nullable p) e in by_blank_attribute h w.0 (nullable_out p w.1))
        (or_true (nullable (after v p)) _ f)

that_attribute : {g : List Definition} {n : Name} {p : Pattern} {a : List Attribute} {c : Children} (v : List ℕ) → OneAttribute g (λ u. v ≡ u) n p a c → Matches g p (attribute_is n v ∷ a) c
that_attribute {g = g} {n = n} {p = p} {a = a} {c = c} v w = rw w.is_ok w.matched

pub after_attribute_in : {g : List Definition} {n : Name} {v : List ℕ} {p : Pattern} {a : List Attribute} {c : Children} → has_flat_lists p ≡ true → Matches g p (attribute_is n v ∷ a) c → Matches g (after_attribute n v p) a c
after_attribute_in {g = g} {n = n} {v = v} f m = attribute_in {n = n} (this_value_in g v) f m

pub after_attribute_out : {g : List Definition} {n : Name} {v : List ℕ} (p : Pattern) {a : List Attribute} {c : Children} → Matches g (after_attribute n v p) a c → Matches g p (attribute_is n v ∷ a) c
after_attribute_out {g = g} {n = n} {v = v} p m = that_attribute v (attribute_out (this_value_out g v) p m)

pub derives_attributes : DerivesAttributes
derives_attributes g p x a c = (λ f m. after_attribute_in f m, λ m. after_attribute_out p m)
