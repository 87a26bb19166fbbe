-- Nodes that stand for one pattern are one.
use Rattle.std.proofs.Common.{◌≡◌, ℕ, zero, suc, ◌<◌, List, [], ◌∷◌, length, refl, sym, ap, ◌∙◌, subst, arith, Some, slice_get, Bool, true, false, eqb}
use Rattle.std.proofs.lemmas.Bool.Decides.{Decides-eqb, same_from_decides}
use Rattle.rng_core.specs.Equality.{same_pattern}
use Rattle.rng_core.proofs.Same.{patterns_decided}
use Rattle.rng_core.specs.Patterns.{Pattern, not_allowed, empty, any_text, typed, literal, listed, attribute, ref}
use Rattle.rng_core.specs.Patterns.{one_or_more, choice, group, interleave}
use Rattle.deriv_nodes.specs.declared.leaf.Leaf.{Leaf}
use Rattle.deriv_nodes.specs.declared.shape.Shape.{Shape}
use Rattle.deriv_nodes.specs.declared.shape.Shape.TheVariants as shape
use Rattle.deriv_nodes.specs.Codes.{both, different}
use Rattle.deriv_nodes.specs.Numbers.{at, AreSingle}
use Rattle.deriv_nodes.specs.Shapes.{form_of}
use Rattle.deriv_nodes.specs.Reading.{leaf_at, class_in, whole_of, patterns_of, IsData, IsNames, IsBelow, IsTable}
use Rattle.deriv_nodes.proofs.Reading.{row, as_many, read_below}
use Rattle.std.specs.List.{IsDistinct, AllByRecursion}
use Rattle.std.proofs.lemmas.Bool.{true≢false}
use Rattle.std.proofs.lemmas.Map.Keys.{IsDistinct-head, IsDistinct-tail}

module _ {K : Type 0} (e : K → K → Bool) where
  none_later : (k : K) (ks : List K) (j : ℕ) (y : K) → AllByRecursion (λ x. e k x ≡ false) ks → slice_get ks j ≡ Some y → e k y ≡ true → ⊥
  none_later k [] j y apart there same = cc
  none_later k (x ∷ ks) zero y apart there same =
      let is : x ≡ y = cc in
      let P : K → Type 0 = λ z. e k z ≡ false in
      true≢false (sym same ∙ subst P is apart.0)
  none_later k (x ∷ ks) (suc j) y apart there same = none_later k ks j y apart.1 there same

  -- equal keys stand at one place
  pub one_place : (ks : List K) (i j : ℕ) (x y : K) → IsDistinct e ks → slice_get ks i ≡ Some x → slice_get ks j ≡ Some y
      → e x y ≡ true → e y x ≡ true → i ≡ j
  one_place [] i j x y single at_i at_j same back = cc
  one_place (k ∷ ks) zero zero x y single at_i at_j same back = refl
  one_place (k ∷ ks) zero (suc j) x y single at_i at_j same back =
      let is : x ≡ k = cc in
      let P : K → Type 0 = λ z. e z y ≡ true in
      absurd (none_later k ks j y (IsDistinct-head e k ks single) at_j (subst P is same))
  one_place (k ∷ ks) (suc i) zero x y single at_i at_j same back =
      let is : y ≡ k = cc in
      let P : K → Type 0 = λ z. e z x ≡ true in
      absurd (none_later k ks i x (IsDistinct-head e k ks single) at_i (subst P is back))
  one_place (k ∷ ks) (suc i) (suc j) x y single at_i at_j same back =
      ap suc (one_place ks i j x y (IsDistinct-tail e k ks single) at_i at_j same back)

pub there_is : {T : Type 0} (xs : List T) (i : ℕ) → i < length xs → (x : T) × (slice_get xs i ≡ Some x)
there_is [] i here = absurd (omega arith)
there_is (x ∷ xs) zero here = (x, refl)
there_is (x ∷ xs) (suc i) here = there_is xs i (omega arith)

-- a leaf that is something is there
pub leaf_there : (P : Pattern → Type 0) → (P not_allowed → ⊥) → (leaves : List Leaf) (k : ℕ) → P (leaf_at leaves k) → k < length leaves
leaf_there P none [] k is = absurd (none is)
leaf_there P none (l ∷ ls) zero is = omega arith
leaf_there P none (l ∷ ls) (suc k) is = let below = leaf_there P none ls k is in omega arith

pub names_whole : (p : Pattern) → IsNames p → p ≡ attribute (class_in p) empty
names_whole not_allowed is = elim is [ ]
names_whole empty is = elim is [ ]
names_whole any_text is = elim is [ ]
names_whole (typed type excepts) is = elim is [ ]
names_whole (literal type text) is = elim is [ ]
names_whole (listed p) is = elim is [ ]
names_whole (attribute class p) is = ap (λ x. attribute class x) is
names_whole (ref i) is = elim is [ ]
names_whole (one_or_more p) is = elim is [ ]
names_whole (choice p q) is = elim is [ ]
names_whole (group p q) is = elim is [ ]
names_whole (interleave p q) is = elim is [ ]

-- the form of a pattern, types and values being one
abbrev form_in : Pattern → ℕ
form_in not_allowed = 0
form_in empty = 1
form_in any_text = 2
form_in (typed type excepts) = 3
form_in (literal type text) = 3
form_in (listed p) = 4
form_in (attribute class p) = 5
form_in (ref i) = 6
form_in (one_or_more p) = 7
form_in (choice p q) = 8
form_in (group p q) = 9
form_in (interleave p q) = 10

data_form : (p : Pattern) → IsData p → form_in p ≡ 3
data_form not_allowed is = elim is [ ]
data_form empty is = elim is [ ]
data_form any_text is = elim is [ ]
data_form (typed type excepts) is = refl
data_form (literal type text) is = refl
data_form (listed p) is = elim is [ ]
data_form (attribute class p) is = elim is [ ]
data_form (ref i) is = elim is [ ]
data_form (one_or_more p) is = elim is [ ]
data_form (choice p q) is = elim is [ ]
data_form (group p q) is = elim is [ ]
data_form (interleave p q) is = elim is [ ]

module _ (leaves : List Leaf) (nodes : List Pattern) where
  whole_form : (n : ℕ) (s : Shape) → IsBelow leaves n s → form_in (whole_of leaves nodes s) ≡ form_of s
  whole_form n shape.NotAllowed below = refl
  whole_form n shape.Empty below = refl
  whole_form n shape.Text below = refl
  whole_form n (shape.Data k) below = data_form (leaf_at leaves k) below
  whole_form n (shape.List a) below = refl
  whole_form n (shape.Attribute k a) below = refl
  whole_form n (shape.Ref i) below = refl
  whole_form n (shape.OneOrMore a) below = refl
  whole_form n (shape.Choice a b) below = refl
  whole_form n (shape.Group a b) below = refl
  whole_form n (shape.Interleave a b) below = refl

  -- where parts are single, and leaves are, so are wholes
  module _ (leaf : (i j : ℕ) → i < length leaves → j < length leaves → leaf_at leaves i ≡ leaf_at leaves j → i ≡ j) (n m : ℕ)
      (part : (a c : ℕ) → a < n → c < m → at nodes a ≡ at nodes c → a ≡ c) where
    same_whole : (s t : Shape) → IsBelow leaves n s → IsBelow leaves m t → form_of s ≡ form_of t
        → whole_of leaves nodes s ≡ whole_of leaves nodes t → s ≡ t
    same_whole shape.NotAllowed shape.NotAllowed one other forms e = refl
    same_whole shape.Empty shape.Empty one other forms e = refl
    same_whole shape.Text shape.Text one other forms e = refl
    same_whole (shape.Data k) (shape.Data j) one other forms e =
        ap (λ x. shape.Data x) (leaf k j (leaf_there IsData (λ h. h) leaves k one) (leaf_there IsData (λ h. h) leaves j other) e)
    same_whole (shape.List a) (shape.List c) one other forms e =
        let is : at nodes a ≡ at nodes c = cc in ap (λ x. shape.List x) (part a c one other is)
    same_whole (shape.Attribute k a) (shape.Attribute j c) one other forms e =
        let class : class_in (leaf_at leaves k) ≡ class_in (leaf_at leaves j) = cc in
        let is : at nodes a ≡ at nodes c = cc in
        let same : leaf_at leaves k ≡ leaf_at leaves j
        = names_whole (leaf_at leaves k) one.0 ∙ (ap (λ x. attribute x empty) class ∙ sym (names_whole (leaf_at leaves j) other.0)) in
        both (λ x y. shape.Attribute x y) k j a c
        (leaf k j (leaf_there IsNames (λ h. h) leaves k one.0) (leaf_there IsNames (λ h. h) leaves j other.0) same) (part a c one.1 other.1 is)
    same_whole (shape.Ref i) (shape.Ref j) one other forms e = let is : i ≡ j = cc in ap (λ x. shape.Ref x) is
    same_whole (shape.OneOrMore a) (shape.OneOrMore c) one other forms e =
        let is : at nodes a ≡ at nodes c = cc in ap (λ x. shape.OneOrMore x) (part a c one other is)
    same_whole (shape.Choice a b) (shape.Choice c d) one other forms e =
        let is : at nodes a ≡ at nodes c = cc in
        let are : at nodes b ≡ at nodes d = cc in
        both (λ x y. shape.Choice x y) a c b d (part a c one.0 other.0 is) (part b d one.1 other.1 are)
    same_whole (shape.Group a b) (shape.Group c d) one other forms e =
        let is : at nodes a ≡ at nodes c = cc in
        let are : at nodes b ≡ at nodes d = cc in
        both (λ x y. shape.Group x y) a c b d (part a c one.0 other.0 is) (part b d one.1 other.1 are)
    same_whole (shape.Interleave a b) (shape.Interleave c d) one other forms e =
        let is : at nodes a ≡ at nodes c = cc in
        let are : at nodes b ≡ at nodes d = cc in
        both (λ x y. shape.Interleave x y) a c b d (part a c one.0 other.0 is) (part b d one.1 other.1 are)
    same_whole s t one other forms e = absurd (different (form_of s) (form_of t) refl forms)

module _ (leaves : List Leaf) (shapes : List Shape) (table : IsTable leaves shapes) where
  single_below : (n i j : ℕ) → i < n → i < length shapes → j < length shapes
      → at (patterns_of leaves shapes) i ≡ at (patterns_of leaves shapes) j → i ≡ j
  single_below zero i j below here there e = absurd (omega arith)
  single_below (suc n) i j below here there e =
      let nodes = patterns_of leaves shapes in
      let s = there_is shapes i here in
      let t = there_is shapes j there in
      let one = read_below leaves shapes i s.0 table.ordered s.1 in
      let other = read_below leaves shapes j t.0 table.ordered t.1 in
      let wholes : whole_of leaves nodes s.0 ≡ whole_of leaves nodes t.0
      = sym (row leaves shapes i s.0 table.ordered s.1) ∙ (e ∙ row leaves shapes j t.0 table.ordered t.1) in
      let forms : form_of s.0 ≡ form_of t.0
      = sym (whole_form leaves nodes i s.0 one) ∙ (ap form_in wholes ∙ whole_form leaves nodes j t.0 other) in
      let same = same_whole leaves nodes table.single_leaves i j
      (λ a c first second is. single_below n a c (omega arith) (omega arith) (omega arith) is) s.0 t.0 one other forms wholes in
      let P : Shape → Type 0 = λ x. slice_get shapes j ≡ Some x in
      table.single i j s.0 s.1 (subst P (sym same) t.1)

  -- whether numbers are one tells whether patterns are
  pub same_answer : (nodes : List Pattern) (p q : ℕ) → patterns_of leaves shapes ≡ nodes → p < length nodes → q < length nodes
      → eqb p q ≡ same_pattern (at nodes p) (at nodes q)
  same_answer nodes p q is here there =
      let P : List Pattern → Type 0 = λ ps. p < length ps → q < length ps → eqb p q ≡ same_pattern (at ps p) (at ps q) in
      let Q : ℕ → Type 0 = λ k. at (patterns_of leaves shapes) p ≡ at (patterns_of leaves shapes) k in
      subst P is (λ one other. same_from_decides (eqb p q)
      (same_pattern (at (patterns_of leaves shapes) p) (at (patterns_of leaves shapes) q)) (Decides-eqb p q) (
        (λ t. single_below (suc p) p q (omega arith) (omega (arith, as_many leaves shapes)) (omega (arith, as_many leaves shapes))
            ((patterns_decided (at (patterns_of leaves shapes) p) (at (patterns_of leaves shapes) q)).0 t)),
        (λ e. (patterns_decided (at (patterns_of leaves shapes) p) (at (patterns_of leaves shapes) q)).1 (subst Q e refl)),
      )) here there

  pub singles : (nodes : List Pattern) → patterns_of leaves shapes ≡ nodes → AreSingle nodes
  singles nodes is =
      subst AreSingle is (λ i j here there e. single_below (suc i) i j (omega arith)
      (omega (arith, as_many leaves shapes, here)) (omega (arith, as_many leaves shapes, there)) e)
