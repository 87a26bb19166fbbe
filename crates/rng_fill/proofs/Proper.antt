-- The attributes of a content's leaves have distinct names, where its attributes are apart.
use Rattle.std.proofs.Common.{◌≡◌, ℕ, List, [], ◌∷◌, ◌++◌, Bool, true, false, ◌||◌, refl, sym, subst, ap, ◌∙◌, inl, inr, ◌⊎◌, ⊎_elim}
use Rattle.std.specs.Prelude.{nat_le, if◌then◌else◌}
use Rattle.std.proofs.lemmas.Bool.{and_parts, or_left, or_right, false≢true}
use Rattle.nx_base.specs.declared.name.Name.{Name}
use Rattle.nx_base.specs.Names.{is_attribute_name}
use Rattle.nx_base.specs.Trees.{Attribute, nil, HasAttribute, here, further, AreAttributes, no_attributes, one_more}
use Rattle.rng_core.specs.Names.{Class, covers, has_attribute_name}
use Rattle.rng_core.specs.Patterns.{Pattern, Definition, not_allowed, empty, any_text, typed, literal, listed, attribute, ref, one_or_more, choice}
use Rattle.rng_core.specs.Patterns.{group, interleave}
use Rattle.rng_core.specs.Matching.{Matches, by_attribute, by_blank_attribute}
use Rattle.rng_kept.specs.Apart.{mentions, is_attribute_free, IsApart, apart_free, apart_attribute, apart_one_or_more, apart_choice, apart_group}
use Rattle.rng_kept.specs.Apart.{apart_interleave}
use Rattle.rng_cost.specs.Least.{least}
use Rattle.rng_cost.specs.Leaves.{leaves}
use Rattle.rng_fill.specs.Sorted.{is_attribute, attribute_leaves, AreAttributesOf, no_leaf, one_leaf}
use Rattle.rng_fill.specs.Laws.{LeavesAreDistinct}
use Rattle.std.proofs.lemmas.List.Elements.{filter-append}

-- ---- attributes in a row

in_join : {n : Name} (x y : List Attribute) → HasAttribute n (x ++ y) → HasAttribute n x ⊎ HasAttribute n y
in_join [] y w = inr w
in_join (e ∷ x) y (here same) = inl (here same)
in_join (e ∷ x) y (further w) = ⊎_elim (λ v. inl (further v)) (λ v. inr v) (in_join x y w)

join : {x y : List Attribute} → AreAttributes x → AreAttributes y → ((n : Name) → HasAttribute n x → HasAttribute n y → ⊥) → AreAttributes (x ++ y)
join no_attributes q apart = q
join {y = y} (one_more {a = e} {more = x} named new p) q apart =
    one_more named (λ w. ⊎_elim new (λ v. apart e.name (here refl) v) (in_join x y w)) (join p q (λ n w v. apart n (further w) v))

-- attributes with distinct names that a pattern mentions
record IsProper (p : Pattern) (a : List Attribute) : Type 0 where
  distinct : AreAttributes a
  mentioned : (n : Name) → HasAttribute n a → mentions p n ≡ true

record Parts (g : List Definition) (ps qs : List Pattern) (a : List Attribute) : Type 0 where
  front : List Attribute
  back : List Attribute
  same : a ≡ front ++ back
  first : AreAttributesOf g ps front
  second : AreAttributesOf g qs back

parts : {g : List Definition} (ps qs : List Pattern) {a : List Attribute} → AreAttributesOf g (ps ++ qs) a → Parts g ps qs a
parts [] qs {a = a} m = record { front = []; back = a; same = refl; first = no_leaf; second = m }
parts (p ∷ ps) qs (one_leaf {x = e} m ms) =
    let w = parts ps qs ms in
    record { front = e ∷ w.front; back = w.back; same = ap (λ (t : List Attribute). e ∷ t) w.same; first = one_leaf m w.first; second = w.second }

beside : {p q r : Pattern} {x y : List Attribute} → ((n : Name) → mentions r n ≡ (mentions p n || mentions q n))
    → ((n : Name) → mentions p n ≡ true → mentions q n ≡ true → ⊥) → IsProper p x → IsProper q y → IsProper r (x ++ y)
beside {p = p} {q = q} {x = x} {y = y} says apart v w = record {
  distinct = join v.distinct w.distinct (λ n h k. apart n (v.mentioned n h) (w.mentioned n k));
  mentioned = λ n h. says n ∙ ⊎_elim (λ k. or_left (mentions p n) (mentions q n) (v.mentioned n k))
      (λ k. or_right (mentions p n) (mentions q n) (w.mentioned n k)) (in_join x y h);
}

-- ---- leaves

by_side : (P : List Pattern → Type 0) (b : Bool) (xs ys : List Pattern) → P xs → P ys → P (if b then xs else ys)
by_side P true xs ys first second = first
by_side P false xs ys first second = second

free : (costs : List ℕ) (p : Pattern) → is_attribute_free p ≡ true → attribute_leaves (leaves costs p) ≡ []
free costs not_allowed h = refl
free costs empty h = refl
free costs any_text h = refl
free costs (typed type excepts) h = refl
free costs (literal type text) h = refl
free costs (listed p) h = refl
free costs (attribute class p) h = absurd (false≢true h)
free costs (ref i) h = refl
free costs (one_or_more p) h = free costs p h
free costs (choice p q) h =
    let o = and_parts (is_attribute_free p) (is_attribute_free q) h in
    let P : List Pattern → Type 0 = λ xs. attribute_leaves xs ≡ [] in
    by_side P (nat_le (least costs p) (least costs q)) (leaves costs p) (leaves costs q) (free costs p o.0) (free costs q o.1)
free costs (group p q) h =
    let o = and_parts (is_attribute_free p) (is_attribute_free q) h in
    filter-append is_attribute (leaves costs p) (leaves costs q) ∙ ap (λ (t : List Pattern). t ++ attribute_leaves (leaves costs q))
    (free costs p o.0) ∙ free costs q o.1
free costs (interleave p q) h =
    let o = and_parts (is_attribute_free p) (is_attribute_free q) h in
    filter-append is_attribute (leaves costs p) (leaves costs q) ∙ ap (λ (t : List Pattern). t ++ attribute_leaves (leaves costs q))
    (free costs p o.0) ∙ free costs q o.1

nothing_proper : {g : List Definition} {p : Pattern} {a : List Attribute} → AreAttributesOf g [] a → IsProper p a
nothing_proper no_leaf = record { distinct = no_attributes; mentioned = λ n w. elim w [ ] }

attribute_named : {g : List Definition} {class : Class} {p : Pattern} {x : Attribute} → Matches g (attribute class p) (x ∷ []) nil
    → has_attribute_name class x.name ≡ true
attribute_named (by_attribute h m) = h
attribute_named (by_blank_attribute h b m) = h

has_one : (class : Class) (p : Pattern) {x : Attribute} → has_attribute_name class x.name ≡ true → (n : Name) → HasAttribute n (x ∷ [])
    → mentions (attribute class p) n ≡ true
has_one class p h n (here same) = subst (λ (m : Name). has_attribute_name class m ≡ true) same h
has_one class p h n (further w) = elim w [ ]

one_proper : {g : List Definition} {class : Class} {p : Pattern} {a : List Attribute} → AreAttributesOf g (attribute class p ∷ []) a
    → IsProper (attribute class p) a
one_proper {class = class} {p = p} (one_leaf {x = x} m no_leaf) =
    let named = attribute_named m in
    record {
      distinct = one_more (and_parts (is_attribute_name x.name) (covers class x.name) named).0 (λ w. elim w [ ]) no_attributes;
      mentioned = λ n w. has_one class p named n w;
    }

module _ {g : List Definition} (costs : List ℕ) where
  in_row : (p q r : Pattern) {a : List Attribute} → ((n : Name) → mentions r n ≡ (mentions p n || mentions q n))
      → ((n : Name) → mentions p n ≡ true → mentions q n ≡ true → ⊥)
      → ((x : List Attribute) → AreAttributesOf g (attribute_leaves (leaves costs p)) x → IsProper p x)
      → ((x : List Attribute) → AreAttributesOf g (attribute_leaves (leaves costs q)) x → IsProper q x)
      → AreAttributesOf g (attribute_leaves (leaves costs p ++ leaves costs q)) a → IsProper r a
  in_row p q r {a = a} says apart first second m =
      let w = parts (attribute_leaves (leaves costs p)) (attribute_leaves (leaves costs q))
      (subst (λ (t : List Pattern). AreAttributesOf g t a) (filter-append is_attribute (leaves costs p) (leaves costs q)) m) in
      subst (λ (t : List Attribute). IsProper r t) (sym w.same) (beside says apart (first w.front w.first) (second w.back w.second))

  proper : (p : Pattern) → IsApart p → {a : List Attribute} → AreAttributesOf g (attribute_leaves (leaves costs p)) a → IsProper p a
  proper p (apart_free h) {a = a} m = nothing_proper (subst (λ (t : List Pattern). AreAttributesOf g t a) (free costs p h) m)
  proper (attribute class p) apart_attribute m = one_proper m
  proper (one_or_more p) (apart_one_or_more l w) m = let v = proper p w m in record { distinct = v.distinct; mentioned = v.mentioned }
  proper (choice p q) (apart_choice w v) {a = a} m =
      let P : List Pattern → Type 0 = λ xs. AreAttributesOf g (attribute_leaves xs) a → IsProper (choice p q) a in
      by_side P (nat_le (least costs p) (least costs q)) (leaves costs p) (leaves costs q)
      (λ n. let u = proper p w n in record { distinct = u.distinct; mentioned = λ k h. or_left (mentions p k) (mentions q k) (u.mentioned k h) })
      (λ n. let u = proper q v n in record { distinct = u.distinct; mentioned = λ k h. or_right (mentions p k) (mentions q k) (u.mentioned k h) })
      m
  proper (group p q) (apart_group w v d) m = in_row p q (group p q) (λ n. refl) d (λ x n. proper p w n) (λ x n. proper q v n) m
  proper (interleave p q) (apart_interleave w v d) m = in_row p q (interleave p q) (λ n. refl) d (λ x n. proper p w n) (λ x n. proper q v n) m

pub leaves_are_distinct : LeavesAreDistinct
leaves_are_distinct g costs p a apart m = (proper costs p apart m).distinct
