-- Nodes that are read back are what was put together.
use Rattle.std.proofs.Common.{◌≡◌, ℕ, zero, suc, ◌+◌, ◌<◌, List, [], ◌∷◌, ◌++◌, length, refl, sym, ap, ◌∙◌, subst, arith, Some, slice_get, inl, inr}
use Rattle.std.proofs.lemmas.List.{get_or_append_left, get_or_push}
use Rattle.std.proofs.lemmas.Option.{slice_get_within}
use Rattle.rng_core.specs.Patterns.{Pattern, not_allowed, listed, attribute}
use Rattle.rng_core.specs.Patterns.{one_or_more, choice, group, interleave}
use Rattle.deriv_nodes.specs.declared.leaf.Leaf.{Leaf}
use Rattle.deriv_nodes.specs.declared.shape.Shape.{Shape}
use Rattle.deriv_nodes.specs.declared.shape.Shape.TheVariants as shape
use Rattle.deriv_nodes.specs.Codes.{both}
use Rattle.deriv_nodes.specs.Numbers.{at, Later, IsAt}
use Rattle.deriv_nodes.specs.Reading.{leaf_at, class_in, whole_of, patterns_behind, patterns_of, IsBelow, AreOrdered, IsInner, HasKey}

pub length_push : {T : Type 0} (xs : List T) (y : T) → length (xs ++ y ∷ []) ≡ suc (length xs)
length_push [] y = refl
length_push (x ∷ xs) y = ap suc (length_push xs y)

-- parts that stay what they were make the same whole
pub whole_stays : (leaves : List Leaf) (old new : List Pattern) (n : ℕ) (s : Shape) → IsBelow leaves n s
    → ((i : ℕ) → i < n → at new i ≡ at old i) → whole_of leaves new s ≡ whole_of leaves old s
whole_stays leaves old new n shape.NotAllowed below stays = refl
whole_stays leaves old new n shape.Empty below stays = refl
whole_stays leaves old new n shape.Text below stays = refl
whole_stays leaves old new n (shape.Data k) below stays = refl
whole_stays leaves old new n (shape.List a) below stays = ap (λ p. listed p) (stays a below)
whole_stays leaves old new n (shape.Attribute k a) below stays = ap (λ p. attribute (class_in (leaf_at leaves k)) p) (stays a below.1)
whole_stays leaves old new n (shape.Ref i) below stays = refl
whole_stays leaves old new n (shape.OneOrMore a) below stays = ap (λ p. one_or_more p) (stays a below)
whole_stays leaves old new n (shape.Choice a b) below stays = both (λ p q. choice p q) _ _ _ _ (stays a below.0) (stays b below.1)
whole_stays leaves old new n (shape.Group a b) below stays = both (λ p q. group p q) _ _ _ _ (stays a below.0) (stays b below.1)
whole_stays leaves old new n (shape.Interleave a b) below stays = both (λ p q. interleave p q) _ _ _ _ (stays a below.0) (stays b below.1)

-- what is put together of nodes alone asks for no leaves
pub inner_whole : (leaves : List Leaf) (nodes : List Pattern) (n : ℕ) (s : Shape) → IsInner n s → whole_of leaves nodes s ≡ whole_of [] nodes s
inner_whole leaves nodes n shape.NotAllowed inner = refl
inner_whole leaves nodes n shape.Empty inner = refl
inner_whole leaves nodes n shape.Text inner = refl
inner_whole leaves nodes n (shape.List a) inner = refl
inner_whole leaves nodes n (shape.Data k) inner = elim inner [ ]
inner_whole leaves nodes n (shape.Attribute k a) inner = elim inner [ ]
inner_whole leaves nodes n (shape.Ref i) inner = refl
inner_whole leaves nodes n (shape.OneOrMore a) inner = refl
inner_whole leaves nodes n (shape.Choice a b) inner = refl
inner_whole leaves nodes n (shape.Group a b) inner = refl
inner_whole leaves nodes n (shape.Interleave a b) inner = refl

pub inner_below : (leaves : List Leaf) (n : ℕ) (s : Shape) → IsInner n s → IsBelow leaves n s
inner_below leaves n shape.NotAllowed inner = tt
inner_below leaves n shape.Empty inner = tt
inner_below leaves n shape.Text inner = tt
inner_below leaves n (shape.List a) inner = inner
inner_below leaves n (shape.Data k) inner = elim inner [ ]
inner_below leaves n (shape.Attribute k a) inner = elim inner [ ]
inner_below leaves n (shape.Ref i) inner = tt
inner_below leaves n (shape.OneOrMore a) inner = inner
inner_below leaves n (shape.Choice a b) inner = inner
inner_below leaves n (shape.Group a b) inner = inner
inner_below leaves n (shape.Interleave a b) inner = inner

-- ---- reading in order

module _ (leaves : List Leaf) where
  pub length_behind : (done : List Pattern) (ss : List Shape) → length (patterns_behind leaves done ss) ≡ length done + length ss
  length_behind done [] = omega arith
  length_behind done (s ∷ ss) =
      omega (arith, length_behind (done ++ whole_of leaves done s ∷ []) ss, length_push done (whole_of leaves done s))

  pub stays_behind : (done : List Pattern) (ss : List Shape) (i : ℕ) → i < length done → at (patterns_behind leaves done ss) i ≡ at done i
  stays_behind done [] i here = refl
  stays_behind done (s ∷ ss) i here =
      let next : i < length (done ++ whole_of leaves done s ∷ []) = omega (arith, length_push done (whole_of leaves done s)) in
      stays_behind (done ++ whole_of leaves done s ∷ []) ss i next ∙ get_or_append_left done (whole_of leaves done s ∷ []) not_allowed i here

  pub behind_more : (done : List Pattern) (ss : List Shape) (s : Shape)
      → patterns_behind leaves done (ss ++ s ∷ []) ≡ patterns_behind leaves done ss ++ whole_of leaves (patterns_behind leaves done ss) s ∷ []
  behind_more done [] s = refl
  behind_more done (t ∷ ss) s = behind_more (done ++ whole_of leaves done t ∷ []) ss s

  pub ordered_at : (n : ℕ) (ss : List Shape) (i : ℕ) (s : Shape) → AreOrdered leaves n ss → slice_get ss i ≡ Some s → IsBelow leaves (n + i) s
  ordered_at n [] i s ordered there = cc
  ordered_at n (t ∷ ss) zero s ordered there =
      let is : t ≡ s = cc in
      let none : n ≡ n + zero = omega arith in
      let P : ℕ → Type 0 = λ m. IsBelow leaves m s in
      let Q : Shape → Type 0 = λ x. IsBelow leaves n x in
      subst P none (subst Q is ordered.0)
  ordered_at n (t ∷ ss) (suc i) s ordered there =
      let one : suc n + i ≡ n + suc i = omega arith in
      let P : ℕ → Type 0 = λ m. IsBelow leaves m s in
      subst P one (ordered_at (suc n) ss i s ordered.1 there)

  pub ordered_more : (n : ℕ) (ss : List Shape) (s : Shape) → AreOrdered leaves n ss → IsBelow leaves (n + length ss) s → AreOrdered leaves n (ss ++ s ∷ [])
  ordered_more n [] s ordered below =
      let none : n + zero ≡ n = omega arith in
      let P : ℕ → Type 0 = λ m. IsBelow leaves m s in
      (subst P none below, tt)
  ordered_more n (t ∷ ss) s ordered below =
      let one : n + suc (length ss) ≡ suc n + length ss = omega arith in
      let P : ℕ → Type 0 = λ m. IsBelow leaves m s in
      (ordered.0, ordered_more (suc n) ss s ordered.1 (subst P one below))

  row_behind : (done : List Pattern) (ss : List Shape) (i : ℕ) (s : Shape) → AreOrdered leaves (length done) ss → slice_get ss i ≡ Some s
      → at (patterns_behind leaves done ss) (length done + i) ≡ whole_of leaves (patterns_behind leaves done ss) s
  row_behind done [] i s ordered there = cc
  row_behind done (t ∷ ss) zero s ordered there =
      let is : t ≡ s = cc in
      let none : length done + zero ≡ length done = omega arith in
      let w = whole_of leaves done t in
      let all = patterns_behind leaves (done ++ w ∷ []) ss in
      let fits : length done < length (done ++ w ∷ []) = omega (arith, length_push done w) in
      let P : ℕ → Type 0 = λ k. at all k ≡ whole_of leaves all s in
      let Q : Shape → Type 0 = λ x. at all (length done) ≡ whole_of leaves all x in
      subst P (sym none) (subst Q is (
      stays_behind (done ++ w ∷ []) ss (length done) fits
      ∙ get_or_push done w not_allowed (length done) refl
      ∙ sym (whole_stays leaves done all (length done) t ordered.0 (λ k below. stays_behind done (t ∷ ss) k below))))
  row_behind done (t ∷ ss) (suc i) s ordered there =
      let w = whole_of leaves done t in
      let all = patterns_behind leaves (done ++ w ∷ []) ss in
      let one : length (done ++ w ∷ []) + i ≡ length done + suc i = omega (arith, length_push done w) in
      let P : ℕ → Type 0 = λ k. at all k ≡ whole_of leaves all s in
      let Q : ℕ → Type 0 = λ k. AreOrdered leaves k ss in
      subst P one (row_behind (done ++ w ∷ []) ss i s (subst Q (sym (length_push done w)) ordered.1) there)

  -- a node is the whole of its parts
  pub row : (ss : List Shape) (i : ℕ) (s : Shape) → AreOrdered leaves 0 ss → slice_get ss i ≡ Some s
      → at (patterns_of leaves ss) i ≡ whole_of leaves (patterns_of leaves ss) s
  unfolding patterns_of
  row ss i s ordered there =
      let none : 0 + i ≡ i = omega arith in
      let P : ℕ → Type 0 = λ k. at (patterns_behind leaves [] ss) k ≡ whole_of leaves (patterns_behind leaves [] ss) s in
      subst P none (row_behind [] ss i s ordered there)

  pub as_many : (ss : List Shape) → length (patterns_of leaves ss) ≡ length ss
  unfolding patterns_of
  as_many ss = omega (arith, length_behind [] ss)

  pub one_more : (ss : List Shape) (s : Shape)
      → patterns_of leaves (ss ++ s ∷ []) ≡ patterns_of leaves ss ++ whole_of leaves (patterns_of leaves ss) s ∷ []
  unfolding patterns_of
  one_more ss s = behind_more [] ss s

-- ---- what is kept by a list of nodes

pub later_same : (nodes : List Pattern) → Later nodes nodes
later_same nodes = record { grows = omega arith; stays = λ i here. refl }

pub later_more : (nodes : List Pattern) (p : Pattern) → Later nodes (nodes ++ p ∷ [])
later_more nodes p = record {
  grows = omega (arith, length_push nodes p);
  stays = λ i here. get_or_append_left nodes (p ∷ []) not_allowed i here;
}

pub later_kept : (leaves : List Leaf) (old new : List Shape) (s : Shape) → HasKey old new s → Later (patterns_of leaves old) (patterns_of leaves new)
later_kept leaves old new s kept = elim kept [
  | inl same ↦ let P : List Shape → Type 0 = λ ss. Later (patterns_of leaves old) (patterns_of leaves ss) in
      subst P (sym same) (later_same (patterns_of leaves old))
  | inr more ↦ let P : List Pattern → Type 0 = λ ps. Later (patterns_of leaves old) ps in
      subst P (sym (ap (λ ss. patterns_of leaves ss) more ∙ one_more leaves old s)) (later_more (patterns_of leaves old) (whole_of leaves (patterns_of leaves old) s))
]

pub ordered_kept : (leaves : List Leaf) (old new : List Shape) (s : Shape) → AreOrdered leaves 0 old → IsBelow leaves (length old) s
    → HasKey old new s → AreOrdered leaves 0 new
ordered_kept leaves old new s ordered below kept = elim kept [
  | inl same ↦ let P : List Shape → Type 0 = λ ss. AreOrdered leaves 0 ss in subst P (sym same) ordered
  | inr more ↦ let P : List Shape → Type 0 = λ ss. AreOrdered leaves 0 ss in
      let none : length old ≡ 0 + length old = omega arith in
      let Q : ℕ → Type 0 = λ n. IsBelow leaves n s in
      subst P (sym more) (ordered_more leaves 0 old s ordered (subst Q none below))
]

-- the number of what is put together so
pub placed : (leaves : List Leaf) (old new : List Shape) (s : Shape) (r : ℕ) → AreOrdered leaves 0 new
    → IsBelow leaves (length old) s → HasKey old new s → slice_get new r ≡ Some s
    → IsAt (patterns_of leaves new) (whole_of leaves (patterns_of leaves old) s) r
placed leaves old new s r ordered below kept there =
    let later = later_kept leaves old new s kept in
    let as_long = as_many leaves old in
    record {
      node = omega (arith, as_many leaves new, slice_get_within new r s there);
      meaning = row leaves new r s ordered there
          ∙ whole_stays leaves (patterns_of leaves old) (patterns_of leaves new) (length old) s below (λ i here. later.stays i (omega arith));
    }

-- what is put together of nodes stands below the next place
pub fits : (leaves : List Leaf) (shapes : List Shape) (nodes : List Pattern) (s : Shape) → patterns_of leaves shapes ≡ nodes
    → IsInner (length nodes) s → IsBelow leaves (length shapes) s
fits leaves shapes nodes s is inner =
    let many : length nodes ≡ length shapes = ap length (sym is) ∙ as_many leaves shapes in
    let P : ℕ → Type 0 = λ n. IsInner n s in
    inner_below leaves (length shapes) s (subst P many inner)

pub put_later : (leaves : List Leaf) (old new : List Shape) (nodes : List Pattern) (s : Shape) → patterns_of leaves old ≡ nodes
    → HasKey old new s → Later nodes (patterns_of leaves new)
put_later leaves old new nodes s is kept =
    let P : List Pattern → Type 0 = λ ps. Later ps (patterns_of leaves new) in
    subst P is (later_kept leaves old new s kept)

pub put_at : (leaves : List Leaf) (old new : List Shape) (nodes : List Pattern) (s : Shape) (r : ℕ) → patterns_of leaves old ≡ nodes
    → AreOrdered leaves 0 old → IsInner (length nodes) s → HasKey old new s → slice_get new r ≡ Some s
    → IsAt (patterns_of leaves new) (whole_of [] nodes s) r
put_at leaves old new nodes s r is ordered inner kept there =
    let below = fits leaves old nodes s is inner in
    let P : List Pattern → Type 0 = λ ps. IsAt (patterns_of leaves new) (whole_of leaves ps s) r in
    let Q : Pattern → Type 0 = λ p. IsAt (patterns_of leaves new) p r in
    subst Q (inner_whole leaves nodes (length nodes) s inner)
    (subst P is (placed leaves old new s r (ordered_kept leaves old new s ordered below kept) below kept there))

-- a node that is read is the whole of its parts
pub read_at : (leaves : List Leaf) (shapes : List Shape) (nodes : List Pattern) (i : ℕ) (s : Shape) → patterns_of leaves shapes ≡ nodes
    → AreOrdered leaves 0 shapes → slice_get shapes i ≡ Some s → at nodes i ≡ whole_of leaves nodes s
read_at leaves shapes nodes i s is ordered there =
    let P : List Pattern → Type 0 = λ ps. at ps i ≡ whole_of leaves ps s in
    subst P is (row leaves shapes i s ordered there)

pub read_below : (leaves : List Leaf) (shapes : List Shape) (i : ℕ) (s : Shape)
    → AreOrdered leaves 0 shapes → slice_get shapes i ≡ Some s → IsBelow leaves i s
read_below leaves shapes i s ordered there =
    let none : 0 + i ≡ i = omega arith in
    let P : ℕ → Type 0 = λ n. IsBelow leaves n s in
    subst P none (ordered_at leaves 0 shapes i s ordered there)
