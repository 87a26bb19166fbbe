-- Nodes while leaves come behind.
use Rattle.std.proofs.Common.{◌≡◌, ℕ, zero, suc, ◌<◌, List, [], ◌∷◌, ◌++◌, length, refl, sym, ap, ◌∙◌, subst, arith, Some, slice_get, inl, inr, true}
use Rattle.std.specs.List.{IsDistinct}
use Rattle.rng_core.specs.Meaning.{pattern_of}
use Rattle.rng_core.specs.Patterns.{Pattern, attribute}
use Rattle.rng_core.proofs.Same.{patterns_decided}
use Rattle.deriv_pattern.specs.Leaves.{IsInOrder}
use Rattle.deriv_nodes.specs.declared.leaf.Leaf.{Leaf}
use Rattle.deriv_nodes.specs.declared.shape.Shape.{Shape}
use Rattle.deriv_nodes.specs.declared.shape.Shape.TheVariants as shape
use Rattle.deriv_nodes.specs.Alike.{same_leaf}
use Rattle.deriv_nodes.specs.Numbers.{at, Later, IsAt}
use Rattle.deriv_nodes.specs.Shapes.{same_shape, shape_itself, shapes_decided}
use Rattle.deriv_nodes.specs.Reading.{leaf_at, class_in, whole_of, patterns_behind, patterns_of, IsData, IsNames, IsBelow, AreOrdered, HasKey, IsTable}
use Rattle.deriv_nodes.proofs.Reading.{length_push, ordered_kept, later_same, placed}
use Rattle.deriv_nodes.proofs.Single.{there_is, leaf_there, names_whole, one_place}

leaf_more : (ls : List Leaf) (l : Leaf) (k : ℕ) → k < length ls → leaf_at (ls ++ l ∷ []) k ≡ leaf_at ls k
leaf_more [] l k here = absurd (omega (arith, here))
leaf_more (x ∷ ls) l zero here = refl
leaf_more (x ∷ ls) l (suc k) here = leaf_more ls l k (omega (arith, here))

order_more : (ls : List Leaf) (l : Leaf) → ((k : ℕ) → IsInOrder (leaf_at ls k)) → IsInOrder (pattern_of l.pattern)
    → (k : ℕ) → IsInOrder (leaf_at (ls ++ l ∷ []) k)
order_more [] l all one zero = one
order_more [] l all one (suc k) = tt
order_more (x ∷ ls) l all one zero = all zero
order_more (x ∷ ls) l all one (suc k) = order_more ls l (λ j. all (suc j)) one k

pub leaf_kept : (old new : List Leaf) (l : Leaf) → HasKey old new l → (k : ℕ) → k < length old → leaf_at new k ≡ leaf_at old k
leaf_kept old new l kept k here = elim kept [
  | inl same ↦ ap (λ ls. leaf_at ls k) same
  | inr more ↦ ap (λ ls. leaf_at ls k) more ∙ leaf_more old l k here
]

order_kept : (old new : List Leaf) (l : Leaf) → HasKey old new l → ((k : ℕ) → IsInOrder (leaf_at old k)) → IsInOrder (pattern_of l.pattern)
    → (k : ℕ) → IsInOrder (leaf_at new k)
order_kept old new l kept all one k = elim kept [
  | inl same ↦ let P : List Leaf → Type 0 = λ ls. IsInOrder (leaf_at ls k) in subst P (sym same) (all k)
  | inr more ↦ let P : List Leaf → Type 0 = λ ls. IsInOrder (leaf_at ls k) in subst P (sym more) (order_more old l all one k)
]

leaf_is : (ls : List Leaf) (k : ℕ) (l : Leaf) → slice_get ls k ≡ Some l → leaf_at ls k ≡ pattern_of l.pattern
leaf_is [] k l there = cc
leaf_is (x ∷ ls) zero l there = let is : x ≡ l = cc in ap (λ y. pattern_of y.pattern) is
leaf_is (x ∷ ls) (suc k) l there = leaf_is ls k l there

single_kept : (ls : List Leaf) → IsDistinct same_leaf ls → (i j : ℕ) → i < length ls → j < length ls → leaf_at ls i ≡ leaf_at ls j → i ≡ j
single_kept ls single i j here there e =
    let x = there_is ls i here in
    let y = there_is ls j there in
    let same : pattern_of x.0.pattern ≡ pattern_of y.0.pattern = sym (leaf_is ls i x.0 x.1) ∙ (e ∙ leaf_is ls j y.0 y.1) in
    one_place same_leaf ls i j x.0 y.0 single x.1 y.1
    ((patterns_decided (pattern_of x.0.pattern) (pattern_of y.0.pattern)).1 same)
    ((patterns_decided (pattern_of y.0.pattern) (pattern_of x.0.pattern)).1 (sym same))

module _ (old new : List Leaf) (stays : (k : ℕ) → k < length old → leaf_at new k ≡ leaf_at old k) where
  below_stays : (n : ℕ) (s : Shape) → IsBelow old n s → IsBelow new n s
  below_stays n shape.NotAllowed below = tt
  below_stays n shape.Empty below = tt
  below_stays n shape.Text below = tt
  below_stays n (shape.Data k) below = subst IsData (sym (stays k (leaf_there IsData (λ h. h) old k below))) below
  below_stays n (shape.List a) below = below
  below_stays n (shape.Attribute k a) below = (subst IsNames (sym (stays k (leaf_there IsNames (λ h. h) old k below.0))) below.0, below.1)
  below_stays n (shape.Ref i) below = tt
  below_stays n (shape.OneOrMore a) below = below
  below_stays n (shape.Choice a b) below = below
  below_stays n (shape.Group a b) below = below
  below_stays n (shape.Interleave a b) below = below

  ordered_stays : (n : ℕ) (ss : List Shape) → AreOrdered old n ss → AreOrdered new n ss
  ordered_stays n [] ordered = tt
  ordered_stays n (s ∷ ss) ordered = (below_stays n s ordered.0, ordered_stays (suc n) ss ordered.1)

  leaves_whole : (nodes : List Pattern) (n : ℕ) (s : Shape) → IsBelow old n s → whole_of new nodes s ≡ whole_of old nodes s
  leaves_whole nodes n shape.NotAllowed below = refl
  leaves_whole nodes n shape.Empty below = refl
  leaves_whole nodes n shape.Text below = refl
  leaves_whole nodes n (shape.Data k) below = stays k (leaf_there IsData (λ h. h) old k below)
  leaves_whole nodes n (shape.List a) below = refl
  leaves_whole nodes n (shape.Attribute k a) below =
      ap (λ p. attribute (class_in p) (at nodes a)) (stays k (leaf_there IsNames (λ h. h) old k below.0))
  leaves_whole nodes n (shape.Ref i) below = refl
  leaves_whole nodes n (shape.OneOrMore a) below = refl
  leaves_whole nodes n (shape.Choice a b) below = refl
  leaves_whole nodes n (shape.Group a b) below = refl
  leaves_whole nodes n (shape.Interleave a b) below = refl

  behind_stays : (done : List Pattern) (ss : List Shape) → AreOrdered old (length done) ss
      → patterns_behind new done ss ≡ patterns_behind old done ss
  behind_stays done [] ordered = refl
  behind_stays done (s ∷ ss) ordered =
      let P : ℕ → Type 0 = λ k. AreOrdered old k ss in
      ap (λ p. patterns_behind new (done ++ p ∷ []) ss) (leaves_whole done (length done) s ordered.0)
      ∙ behind_stays (done ++ whole_of old done s ∷ []) ss (subst P (sym (length_push done (whole_of old done s))) ordered.1)

  patterns_stay : (ss : List Shape) → AreOrdered old 0 ss → patterns_of new ss ≡ patterns_of old ss
  unfolding patterns_of
  patterns_stay ss ordered = behind_stays [] ss ordered

-- with a leaf more the nodes are what they were
pub nodes_kept : (old new : List Leaf) (shapes : List Shape) (l : Leaf) → AreOrdered old 0 shapes → HasKey old new l
    → patterns_of new shapes ≡ patterns_of old shapes
nodes_kept old new shapes l ordered kept = patterns_stay old new (leaf_kept old new l kept) shapes ordered

pub table_kept : (old new : List Leaf) (shapes : List Shape) (l : Leaf) → IsTable old shapes → HasKey old new l
    → IsDistinct same_leaf new → IsInOrder (pattern_of l.pattern) → IsTable new shapes
table_kept old new shapes l table kept single order = record {
  ordered = ordered_stays old new (leaf_kept old new l kept) 0 shapes table.ordered;
  single = table.single;
  single_leaves = single_kept new single;
  leaves_in_order = order_kept old new l kept table.leaves_in_order order;
}

-- ---- a node of a leaf that was kept

-- the leaf of a number stands for what was given
pub leaf_given : (ls : List Leaf) (l : Leaf) (k : ℕ) → (m : Leaf) × (slice_get ls k ≡ Some m) × (same_leaf l m ≡ true)
    → leaf_at ls k ≡ pattern_of l.pattern
leaf_given ls l k there =
    leaf_is ls k there.0 there.1 ∙ sym ((patterns_decided (pattern_of l.pattern) (pattern_of there.0.pattern)).0 there.2)

pub table_put : (leaves : List Leaf) (old new : List Shape) (s : Shape) → IsTable leaves old → IsBelow leaves (length old) s
    → HasKey old new s → IsDistinct same_shape new → IsTable leaves new
table_put leaves old new s table below kept single = record {
  ordered = ordered_kept leaves old new s table.ordered below kept;
  single = λ i j x one other. one_place same_shape new i j x x single one other (shape_itself x) (shape_itself x);
  single_leaves = table.single_leaves;
  leaves_in_order = table.leaves_in_order;
}

pub leaf_before : (old new : List Leaf) (shapes : List Shape) (l : Leaf) (nodes : List Pattern) → patterns_of old shapes ≡ nodes
    → AreOrdered old 0 shapes → HasKey old new l → patterns_of new shapes ≡ nodes
leaf_before old new shapes l nodes is ordered kept = nodes_kept old new shapes l ordered kept ∙ is

pub leaf_later : (old new : List Leaf) (shapes : List Shape) (l : Leaf) (nodes : List Pattern) → patterns_of old shapes ≡ nodes
    → AreOrdered old 0 shapes → HasKey old new l → Later nodes (patterns_of new shapes)
leaf_later old new shapes l nodes is ordered kept =
    let P : List Pattern → Type 0 = λ ps. Later nodes ps in
    subst P (sym (leaf_before old new shapes l nodes is ordered kept)) (later_same nodes)

pub names_in_order : (p : Pattern) → IsNames p → IsInOrder p
names_in_order p is = subst IsInOrder (sym (names_whole p is)) tt

-- a node of a leaf that was kept stands for the leaf
pub data_at : (leaves : List Leaf) (old new : List Shape) (k r : ℕ) (p : Pattern) → AreOrdered leaves 0 new
    → leaf_at leaves k ≡ p → IsData p → HasKey old new (shape.Data k)
    → (s : Shape) × (slice_get new r ≡ Some s) × (same_shape (shape.Data k) s ≡ true) → IsAt (patterns_of leaves new) p r
data_at leaves old new k r p ordered is sort kept there =
    let Q : Shape → Type 0 = λ s. slice_get new r ≡ Some s in
    let P : Pattern → Type 0 = λ x. IsAt (patterns_of leaves new) x r in
    subst P is (placed leaves old new (shape.Data k) r ordered (subst IsData (sym is) sort) kept
    (subst Q (sym ((shapes_decided (shape.Data k) there.0).0 there.2)) there.1))

pub attribute_at : (leaves : List Leaf) (old new : List Shape) (nodes : List Pattern) (k a r : ℕ) (p : Pattern) → AreOrdered leaves 0 new
    → patterns_of leaves old ≡ nodes → leaf_at leaves k ≡ p → IsBelow leaves (length old) (shape.Attribute k a)
    → HasKey old new (shape.Attribute k a)
    → (s : Shape) × (slice_get new r ≡ Some s) × (same_shape (shape.Attribute k a) s ≡ true)
    → IsAt (patterns_of leaves new) (attribute (class_in p) (at nodes a)) r
attribute_at leaves old new nodes k a r p ordered same is below kept there =
    let Q : Shape → Type 0 = λ s. slice_get new r ≡ Some s in
    let P : Pattern → Type 0 = λ x. IsAt (patterns_of leaves new) (attribute (class_in x) (at nodes a)) r in
    let R : List Pattern → Type 0 = λ ps. IsAt (patterns_of leaves new) (attribute (class_in (leaf_at leaves k)) (at ps a)) r in
    subst P is (subst R same (placed leaves old new (shape.Attribute k a) r ordered below kept
    (subst Q (sym ((shapes_decided (shape.Attribute k a) there.0).0 there.2)) there.1)))
