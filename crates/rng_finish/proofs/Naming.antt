-- The attributes of leaves have names that the tag hasn't yet, and no two have one name.
use Rattle.std.proofs.Common.{◌≡◌, ◌≤◌, ◌+◌, ℕ, min, List, [], ◌∷◌, ◌++◌, Bool, true, false, refl, sym, subst, ap, ◌∙◌, arith, ◌⊎◌, inl, inr}
use Rattle.std.specs.Prelude.{nat_le, ◌&&◌, ◌||◌, if◌then◌else◌, IsTrue}
use Rattle.std.specs.List.{AllByRecursion}
use Rattle.std.proofs.lemmas.Bool.{and_parts, and_from, or_left, or_right, or_cases, cases_Bool, false≢true, true≢false, leb-true, leb-false}
use Rattle.std.proofs.lemmas.List.Elements.{filter-append}
use Rattle.nx_base.specs.declared.name.Name.{Name}
use Rattle.nx_base.specs.Names.{is_attribute_name}
use Rattle.nx_base.specs.Trees.{Attribute, Children, nil, HasAttribute, here, further, AreAttributes, no_attributes, one_more}
use Rattle.rng_core.specs.Names.{Class, covers, has_attribute_name}
use Rattle.rng_core.specs.Matching.{Matches, by_attribute, by_blank_attribute}
use Rattle.rng_core.specs.Patterns.{Pattern, Definition, not_allowed, empty, any_text, typed, literal, listed, attribute, ref, one_or_more, choice, group, interleave}
use Rattle.rng_kept.specs.Events.{IsAmong}
use Rattle.rng_kept.specs.Nullable.{nullable}
use Rattle.rng_cost.specs.Least.{cost_at, least}
use Rattle.rng_cost.specs.Leaves.{leaves}
use Rattle.rng_fill.specs.Sorted.{is_attribute, attribute_leaves, AreAttributesOf, no_leaf, one_leaf}
use Rattle.rng_names.specs.Left.{UsesNames}
use Rattle.rng_names.specs.Used.{taken_classes, PrefersNothing, EachTwo, ShareNoName}
use Rattle.rng_names.proofs.Used.{used_names_are_not_taken, taken_names_are_apart}

-- ---- of a choice that matches nothing the side that costs less matches nothing

abbrev pub by_cost : List ℕ → Pattern → Pattern → Bool
by_cost costs p q = nat_le (least costs p) (least costs q)

module _ (costs : List ℕ) where
  free : (p : Pattern) → nullable p ≡ true → least costs p ≡ 0
  free not_allowed h = absurd (false≢true h)
  free empty h = refl
  free any_text h = refl
  free (typed t e) h = absurd (false≢true h)
  free (literal t v) h = absurd (false≢true h)
  free (listed p) h = absurd (false≢true h)
  free (attribute c p) h = absurd (false≢true h)
  free (ref i) h = absurd (false≢true h)
  free (one_or_more p) h = free p h
  free (choice p q) h = elim (or_cases (nullable p) (nullable q) h) [
    | inl x ↦ omega (arith, free p x)
    | inr y ↦ omega (arith, free q y)
  ]
  free (group p q) h = let w = and_parts (nullable p) (nullable q) h in omega (arith, free p w.0, free q w.1)
  free (interleave p q) h = let w = and_parts (nullable p) (nullable q) h in omega (arith, free p w.0, free q w.1)

  free_is : (p : Pattern) → least costs p ≡ 0 → nullable p ≡ true
  free_is not_allowed h = absurd (omega (arith, h))
  free_is empty h = refl
  free_is any_text h = refl
  free_is (typed t e) h = absurd (omega (arith, h))
  free_is (literal t v) h = absurd (omega (arith, h))
  free_is (listed p) h = absurd (omega (arith, h))
  free_is (attribute c p) h = absurd (omega (arith, h))
  free_is (ref i) h = absurd (omega (arith, h))
  free_is (one_or_more p) h = free_is p h
  free_is (choice p q) h = elim (cases_Bool (by_cost costs p q)) [
    | inl e ↦ or_left (nullable p) (nullable q) (free_is p (omega (arith, h, leb-true (least costs p) (least costs q) e)))
    | inr e ↦ or_right (nullable p) (nullable q) (free_is q (omega (arith, h, leb-false (least costs p) (least costs q) e)))
  ]
  free_is (group p q) h = and_from (nullable p) (nullable q) (free_is p (omega (arith, h))) (free_is q (omega (arith, h)))
  free_is (interleave p q) h = and_from (nullable p) (nullable q) (free_is p (omega (arith, h))) (free_is q (omega (arith, h)))

  pub prefers_nothing : PrefersNothing (by_cost costs)
  prefers_nothing p q h = by_side (cases_Bool (by_cost costs p q)) (or_cases (nullable p) (nullable q) h)
    where
      by_side : (by_cost costs p q ≡ true) ⊎ (by_cost costs p q ≡ false) → (nullable p ≡ true) ⊎ (nullable q ≡ true)
          → nullable (if by_cost costs p q then p else q) ≡ true
      by_side (inl e) (inl x) = rw e x
      by_side (inl e) (inr y) = rw e (free_is p (omega (arith, free q y, leb-true (least costs p) (least costs q) e)))
      by_side (inr e) (inl x) = rw e (free_is q (omega (arith, free p x, leb-false (least costs p) (least costs q) e)))
      by_side (inr e) (inr y) = rw e y

-- ---- the classes of the leaves' attributes

-- each attribute has a name of its class
pub data HaveClasses : List Class → List Attribute → Type 0 where
  no_class : HaveClasses [] []
  one_class : {c : Class} {cs : List Class} {x : Attribute} {a : List Attribute} → has_attribute_name c x.name ≡ true → HaveClasses cs a
      → HaveClasses (c ∷ cs) (x ∷ a)

classes_join : {cs ds : List Class} {a b : List Attribute} → HaveClasses cs a → HaveClasses ds b → HaveClasses (cs ++ ds) (a ++ b)
classes_join no_class k = k
classes_join (one_class e h) k = one_class e (classes_join h k)

record Parts (g : List Definition) (ps qs : List Pattern) (a : List Attribute) : Type 0 where
  front : List Attribute
  back : List Attribute
  is : a ≡ front ++ back
  first : AreAttributesOf g ps front
  second : AreAttributesOf g qs back

module _ {g : List Definition} where
  parted : (ps qs : List Pattern) {a : List Attribute} → AreAttributesOf g (ps ++ qs) a → Parts g ps qs a
  parted [] qs {a = a} m = record { front = []; back = a; is = refl; first = no_leaf; second = m }
  parted (p ∷ ps) qs (one_leaf {x = x} m more) =
      let w = parted ps qs more in
      record {
        front = x ∷ w.front;
        back = w.back;
        is = ap (λ (t : List Attribute). x ∷ t) w.is;
        first = one_leaf m w.first;
        second = w.second;
      }

  named : {c : Class} {q : Pattern} {x : Attribute} → Matches g (attribute c q) (x ∷ []) nil → has_attribute_name c x.name ≡ true
  named (by_attribute h m) = h
  named (by_blank_attribute h b m) = h

  none_of : {a : List Attribute} → AreAttributesOf g [] a → HaveClasses [] a
  none_of no_leaf = no_class

  alone : {c : Class} {q : Pattern} {a : List Attribute} → AreAttributesOf g (attribute c q ∷ []) a → HaveClasses (c ∷ []) a
  alone (one_leaf m no_leaf) = one_class (named m) no_class

  module _ (costs : List ℕ) where
    both : (p q : Pattern)
        → ((b : List Attribute) → AreAttributesOf g (attribute_leaves (leaves costs p)) b → HaveClasses (taken_classes (by_cost costs) p) b)
        → ((b : List Attribute) → AreAttributesOf g (attribute_leaves (leaves costs q)) b → HaveClasses (taken_classes (by_cost costs) q) b)
        → {a : List Attribute} → AreAttributesOf g (attribute_leaves (leaves costs p ++ leaves costs q)) a
        → HaveClasses (taken_classes (by_cost costs) p ++ taken_classes (by_cost costs) q) a
    both p q first second {a = a} m =
        let w = parted (attribute_leaves (leaves costs p)) (attribute_leaves (leaves costs q))
        (subst (λ (t : List Pattern). AreAttributesOf g t a) (filter-append is_attribute (leaves costs p) (leaves costs q)) m) in
        subst (λ (t : List Attribute). HaveClasses (taken_classes (by_cost costs) p ++ taken_classes (by_cost costs) q) t) (sym w.is)
        (classes_join (first w.front w.first) (second w.back w.second))

    by_side : (p q : Pattern) (b : Bool)
        → ((x : List Attribute) → AreAttributesOf g (attribute_leaves (leaves costs p)) x → HaveClasses (taken_classes (by_cost costs) p) x)
        → ((x : List Attribute) → AreAttributesOf g (attribute_leaves (leaves costs q)) x → HaveClasses (taken_classes (by_cost costs) q) x)
        → {a : List Attribute} → AreAttributesOf g (attribute_leaves (if b then leaves costs p else leaves costs q)) a
        → HaveClasses (if b then taken_classes (by_cost costs) p else taken_classes (by_cost costs) q) a
    by_side p q true first second {a = a} m = first a m
    by_side p q false first second {a = a} m = second a m

    pub classed : (p : Pattern) {a : List Attribute} → AreAttributesOf g (attribute_leaves (leaves costs p)) a
        → HaveClasses (taken_classes (by_cost costs) p) a
    classed not_allowed m = none_of m
    classed empty m = none_of m
    classed any_text m = none_of m
    classed (typed t e) m = none_of m
    classed (literal t v) m = none_of m
    classed (listed p) m = none_of m
    classed (attribute c q) m = alone m
    classed (ref i) m = none_of m
    classed (one_or_more p) m = classed p m
    classed (choice p q) {a = a} m = by_side p q (by_cost costs p q) (λ b n. classed p n) (λ b n. classed q n) m
    classed (group p q) {a = a} m = both p q (λ b n. classed p n) (λ b n. classed q n) m
    classed (interleave p q) {a = a} m = both p q (λ b n. classed p n) (λ b n. classed q n) m

-- ---- what classes say of names

has_none : {cs : List Class} {a : List Attribute} (n : Name) → AllByRecursion (λ (c : Class). has_attribute_name c n ≡ false) cs → HaveClasses cs a
    → HasAttribute n a → ⊥
has_none n all no_class k = elim k [ ]
has_none n all (one_class {c = c} e h) (here is) = true≢false (sym (subst (λ (m : Name). has_attribute_name c m ≡ true) is e) ∙ all.0)
has_none n all (one_class e h) (further k) = has_none n all.1 h k

shared_none : (c : Class) (n : Name) → has_attribute_name c n ≡ true → (cs : List Class) → AllByRecursion (ShareNoName c) cs
    → AllByRecursion (λ (d : Class). has_attribute_name d n ≡ false) cs
shared_none c n e [] all = tt
shared_none c n e (d ∷ cs) all = (all.0.none n e, shared_none c n e cs all.1)

distinct : {cs : List Class} {a : List Attribute} → EachTwo ShareNoName cs → HaveClasses cs a → AreAttributes a
distinct two no_class = no_attributes
distinct two (one_class {c = c} {cs = cs} {x = x} e h) =
    one_more (and_parts (is_attribute_name x.name) (covers c x.name) e).0
    (λ k. has_none x.name (shared_none c x.name e cs two.0) h k) (distinct two.1 h)

module _ {g : List Definition} {l : List Name} (costs : List ℕ) {p : Pattern} (uses : UsesNames l p) {a : List Attribute}
    (m : AreAttributesOf g (attribute_leaves (leaves costs p)) a) where
  pub leaves_distinct : AreAttributes a
  leaves_distinct = distinct (taken_names_are_apart (by_cost costs) (prefers_nothing costs) p uses.parted) (classed costs p m)

  pub leaves_new : (n : Name) → HasAttribute n a → IsAmong n l → ⊥
  leaves_new n h k = has_none n (used_names_are_not_taken (by_cost costs) (prefers_nothing costs) p n (uses.used n k)) (classed costs p m) h
