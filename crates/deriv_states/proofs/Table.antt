-- Tables read back: what stands at a place is what was put there.
use Rattle.std.proofs.Common.{◌≡◌, ℕ, zero, suc, ◌+◌, ◌<◌, List, [], ◌∷◌, ◌++◌, length, refl, sym, ap, ◌∙◌, subst, arith, Some, slice_get, slice_index_or, inl, inr}
use Rattle.std.proofs.lemmas.List.{get_or_append_left, get_or_push}
use Rattle.deriv_nodes.specs.Reading.{HasKey, AreOnce}
use Rattle.deriv_states.specs.Tables.{wholes_behind, wholes_of, AreOrdered, Grows, AreApart}
use Rattle.deriv_nodes.proofs.Single.{there_is}

pub length_push : {M : Type 0} (xs : List M) (x : M) → length (xs ++ x ∷ []) ≡ suc (length xs)
length_push [] x = refl
length_push (y ∷ xs) x = ap suc (length_push xs x)

-- ---- order

module _ {S : Type 0} (IsBelow : ℕ → S → Type 0) where
  ordered_at : (n : ℕ) (ss : List S) (i : ℕ) (s : S) → AreOrdered IsBelow n ss → slice_get ss i ≡ Some s → IsBelow (n + i) s
  ordered_at n [] i s ordered there = cc
  ordered_at n (x ∷ ss) zero s ordered there =
      let is : x ≡ s = cc in
      let none : n ≡ n + zero = omega arith in
      let P : ℕ → Type 0 = λ k. IsBelow k s in
      let Q : S → Type 0 = λ y. IsBelow n y in
      subst P none (subst Q is ordered.0)
  ordered_at n (x ∷ ss) (suc i) s ordered there =
      let one : suc n + i ≡ n + suc i = omega arith in
      let P : ℕ → Type 0 = λ k. IsBelow k s in
      subst P one (ordered_at (suc n) ss i s ordered.1 there)

  pub read_below : (ss : List S) (i : ℕ) (s : S) → AreOrdered IsBelow 0 ss → slice_get ss i ≡ Some s → IsBelow i s
  read_below ss i s ordered there =
      let none : 0 + i ≡ i = omega arith in
      let P : ℕ → Type 0 = λ n. IsBelow n s in
      subst P none (ordered_at 0 ss i s ordered there)

  ordered_more : (n : ℕ) (ss : List S) (s : S) → AreOrdered IsBelow n ss → IsBelow (n + length ss) s → AreOrdered IsBelow n (ss ++ s ∷ [])
  ordered_more n [] s ordered below =
      let none : n + zero ≡ n = omega arith in
      let P : ℕ → Type 0 = λ k. IsBelow k s in
      (subst P none below, tt)
  ordered_more n (x ∷ ss) s ordered below =
      let one : n + suc (length ss) ≡ suc n + length ss = omega arith in
      let P : ℕ → Type 0 = λ k. IsBelow k s in
      (ordered.0, ordered_more (suc n) ss s ordered.1 (subst P one below))

  pub ordered_kept : (old new : List S) (s : S) → AreOrdered IsBelow 0 old → IsBelow (length old) s → HasKey old new s → AreOrdered IsBelow 0 new
  ordered_kept old new s ordered below kept = elim kept [
    | inl same ↦ let P : List S → Type 0 = λ xs. AreOrdered IsBelow 0 xs in subst P (sym same) ordered
    | inr more ↦ let P : List S → Type 0 = λ xs. AreOrdered IsBelow 0 xs in
        let none : length old ≡ 0 + length old = omega arith in
        let Q : ℕ → Type 0 = λ n. IsBelow n s in
        subst P (sym more) (ordered_more 0 old s ordered (subst Q none below))
  ]

pub ordered_wider : {S : Type 0} (Below Wider : ℕ → S → Type 0) → ((n : ℕ) (s : S) → Below n s → Wider n s)
    → (n : ℕ) (ss : List S) → AreOrdered Below n ss → AreOrdered Wider n ss
ordered_wider Below Wider up n [] ordered = tt
ordered_wider Below Wider up n (s ∷ ss) ordered = (up n s ordered.0, ordered_wider Below Wider up (suc n) ss ordered.1)

-- ---- wholes

module _ {S M : Type 0} (none : M) (whole : List M → S → M) where
  length_behind : (done : List M) (ss : List S) → length (wholes_behind whole done ss) ≡ length done + length ss
  length_behind done [] = omega arith
  length_behind done (s ∷ ss) = omega (arith, length_behind (done ++ whole done s ∷ []) ss, length_push done (whole done s))

  stays_behind : (done : List M) (ss : List S) (i : ℕ) → i < length done
      → slice_index_or (wholes_behind whole done ss) i none ≡ slice_index_or done i none
  stays_behind done [] i here = refl
  stays_behind done (s ∷ ss) i here =
      let next : i < length (done ++ whole done s ∷ []) = omega (arith, length_push done (whole done s)) in
      stays_behind (done ++ whole done s ∷ []) ss i next ∙ get_or_append_left done (whole done s ∷ []) none i here

  behind_more : (done : List M) (ss : List S) (s : S)
      → wholes_behind whole done (ss ++ s ∷ []) ≡ wholes_behind whole done ss ++ whole (wholes_behind whole done ss) s ∷ []
  behind_more done [] s = refl
  behind_more done (x ∷ ss) s = behind_more (done ++ whole done x ∷ []) ss s

  pub as_many : (ss : List S) → length (wholes_of whole ss) ≡ length ss
  unfolding wholes_of
  as_many ss = omega (arith, length_behind [] ss)

  pub one_more : (ss : List S) (s : S) → wholes_of whole (ss ++ s ∷ []) ≡ wholes_of whole ss ++ whole (wholes_of whole ss) s ∷ []
  unfolding wholes_of
  one_more ss s = behind_more [] ss s

  grows_same : (xs : List M) → Grows none xs xs
  grows_same xs = record { grows = omega arith; stays = λ i here. refl }

  grows_more : (xs : List M) (x : M) → Grows none xs (xs ++ x ∷ [])
  grows_more xs x = record {
    grows = omega (arith, length_push xs x);
    stays = λ i here. get_or_append_left xs (x ∷ []) none i here;
  }

  pub wholes_grow : (old new : List S) (s : S) → HasKey old new s → Grows none (wholes_of whole old) (wholes_of whole new)
  wholes_grow old new s kept = elim kept [
    | inl same ↦ let P : List S → Type 0 = λ xs. Grows none (wholes_of whole old) (wholes_of whole xs) in
        subst P (sym same) (grows_same (wholes_of whole old))
    | inr more ↦ let P : List M → Type 0 = λ os. Grows none (wholes_of whole old) os in
        subst P (sym (ap (λ xs. wholes_of whole xs) more ∙ one_more old s)) (grows_more (wholes_of whole old) (whole (wholes_of whole old) s))
  ]

  module _ (IsBelow : ℕ → S → Type 0)
      (steady : (old new : List M) (n : ℕ) (s : S) → IsBelow n s
      → ((i : ℕ) → i < n → slice_index_or new i none ≡ slice_index_or old i none) → whole new s ≡ whole old s) where
    row_behind : (done : List M) (ss : List S) (i : ℕ) (s : S) → AreOrdered IsBelow (length done) ss → slice_get ss i ≡ Some s
        → slice_index_or (wholes_behind whole done ss) (length done + i) none ≡ whole (wholes_behind whole done ss) s
    row_behind done [] i s ordered there = cc
    row_behind done (x ∷ ss) zero s ordered there =
        let is : x ≡ s = cc in
        let same : length done + zero ≡ length done = omega arith in
        let w = whole done x in
        let all = wholes_behind whole (done ++ w ∷ []) ss in
        let fits : length done < length (done ++ w ∷ []) = omega (arith, length_push done w) in
        let P : ℕ → Type 0 = λ k. slice_index_or all k none ≡ whole all s in
        let Q : S → Type 0 = λ y. slice_index_or all (length done) none ≡ whole all y in
        subst P (sym same) (subst Q is (
        stays_behind (done ++ w ∷ []) ss (length done) fits
        ∙ get_or_push done w none (length done) refl
        ∙ sym (steady done all (length done) x ordered.0 (λ k below. stays_behind done (x ∷ ss) k below))))
    row_behind done (x ∷ ss) (suc i) s ordered there =
        let w = whole done x in
        let all = wholes_behind whole (done ++ w ∷ []) ss in
        let one : length (done ++ w ∷ []) + i ≡ length done + suc i = omega (arith, length_push done w) in
        let P : ℕ → Type 0 = λ k. slice_index_or all k none ≡ whole all s in
        let Q : ℕ → Type 0 = λ k. AreOrdered IsBelow k ss in
        subst P one (row_behind (done ++ w ∷ []) ss i s (subst Q (sym (length_push done w)) ordered.1) there)

    pub row : (ss : List S) (i : ℕ) (s : S) → AreOrdered IsBelow 0 ss → slice_get ss i ≡ Some s
        → slice_index_or (wholes_of whole ss) i none ≡ whole (wholes_of whole ss) s
    unfolding wholes_of
    row ss i s ordered there =
        let same : 0 + i ≡ i = omega arith in
        let P : ℕ → Type 0 = λ k. slice_index_or (wholes_behind whole [] ss) k none ≡ whole (wholes_behind whole [] ss) s in
        subst P same (row_behind [] ss i s ordered there)

    -- what is put together, by its number
    pub put_is : (old new : List S) (s : S) (r : ℕ) → AreOrdered IsBelow 0 new → IsBelow (length old) s → HasKey old new s
        → slice_get new r ≡ Some s → slice_index_or (wholes_of whole new) r none ≡ whole (wholes_of whole old) s
    put_is old new s r ordered below kept there =
        let grown = wholes_grow old new s kept in
        row new r s ordered there
        ∙ steady (wholes_of whole old) (wholes_of whole new) (length old) s below (λ k here. grown.stays k (omega (arith, as_many old, here)))

    -- where parts that are the same are one, so are the wholes
    module _ (ss : List S) (ordered : AreOrdered IsBelow 0 ss) (single : AreOnce ss)
        (one : (n m : ℕ) (a b : S) → ((i j : ℕ) → i < n → j < m
        → slice_index_or (wholes_of whole ss) i none ≡ slice_index_or (wholes_of whole ss) j none → i ≡ j)
        → IsBelow n a → IsBelow m b → whole (wholes_of whole ss) a ≡ whole (wholes_of whole ss) b → a ≡ b) where
      apart_below : (n i j : ℕ) → i < n → i < length ss → j < length ss
          → slice_index_or (wholes_of whole ss) i none ≡ slice_index_or (wholes_of whole ss) j none → i ≡ j
      apart_below zero i j below here there e = absurd (omega (arith, below))
      apart_below (suc n) i j below here there e =
          let a = there_is ss i here in
          let b = there_is ss j there in
          let first = read_below IsBelow ss i a.0 ordered a.1 in
          let second = read_below IsBelow ss j b.0 ordered b.1 in
          let same : whole (wholes_of whole ss) a.0 ≡ whole (wholes_of whole ss) b.0
          = sym (row ss i a.0 ordered a.1) ∙ (e ∙ row ss j b.0 ordered b.1) in
          let is = one i j a.0 b.0 (λ k l first second is. apart_below n k l (omega arith) (omega arith) (omega arith) is) first second same in
          let P : S → Type 0 = λ x. slice_get ss j ≡ Some x in
          single i j a.0 a.1 (subst P (sym is) b.1)

      pub wholes_apart : AreApart none (wholes_of whole ss)
      wholes_apart i j here there e = apart_below (suc i) i j (omega arith) (omega (arith, as_many ss)) (omega (arith, as_many ss)) e

-- ---- while what wholes are made of grows

module _ {S M : Type 0} (older newer : List M → S → M) (IsBelow : ℕ → S → Type 0)
    (alike : (done : List M) (n : ℕ) (s : S) → IsBelow n s → newer done s ≡ older done s) where
  changed_behind : (n : ℕ) (done : List M) (ss : List S) → AreOrdered IsBelow n ss → wholes_behind newer done ss ≡ wholes_behind older done ss
  changed_behind n done [] ordered = refl
  changed_behind n done (s ∷ ss) ordered =
      ap (λ o. wholes_behind newer (done ++ o ∷ []) ss) (alike done n s ordered.0)
      ∙ changed_behind (suc n) (done ++ older done s ∷ []) ss ordered.1

  pub wholes_stay : (ss : List S) → AreOrdered IsBelow 0 ss → wholes_of newer ss ≡ wholes_of older ss
  unfolding wholes_of
  wholes_stay ss ordered = changed_behind 0 [] ss ordered
