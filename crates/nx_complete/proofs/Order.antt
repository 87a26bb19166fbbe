-- Lists in order, each item once: two with the same items are one list, and any items have one.
use Rattle.std.proofs.Common.{◌≡◌, ℕ, List, [], ◌∷◌, refl, sym, ap, subst, ◌∙◌, ◌⊎◌, inl, inr}
use Rattle.std.specs.List.{AllByRecursion}
use Rattle.std.specs.List.Sorted.{IsStrictlySortedBy}
use Rattle.std.specs.BTreeSet.{insert_key}
use Rattle.std.specs.Cmp.{IsTotalOrder}
use Rattle.std.specs.Ordering.{is_lt, match_ordering, ordering_reverse}
use Rattle.std.specs.declared.cmp.Ordering.{Ordering}
use Rattle.std.specs.declared.cmp.Ordering.TheVariants.{Less, Equal, Greater}
use Rattle.std.proofs.lemmas.Bool.{false≢true}
use Rattle.std.proofs.lemmas.Cmp.{tied_itself}
use Rattle.std.proofs.lemmas.Map.Lookups.{CmpEqualImpliesEq, exact_bytes, exact_pairs}
use Rattle.nx_base.specs.declared.name.Name.{Name}
use Rattle.rng_live.specs.Order.{text_order, name_order}
use Rattle.nx_complete.proofs.Elements.{In, at_head, in_tail, in_all}

abbrev pub Among : {X : Type 0} → List X → List X → Type 0
Among {X} xs ys = (x : X) → In x xs → In x ys

by_order : {P : Type 0} (r : Ordering) → (r ≡ Less → P) → (r ≡ Equal → P) → (r ≡ Greater → P) → P
by_order Less a b c = a refl
by_order Equal a b c = b refl
by_order Greater a b c = c refl

nothing_in : {X : Type 0} (x : X) → In x [] → ⊥
nothing_in x i = elim i [ ]

-- ---- an item put into a list, where one order or another is told

put_cases : {X : Type 0} (r : Ordering) (k y x : X) (ys rest : List X) → In x (match_ordering r (k ∷ y ∷ ys) (y ∷ ys) (y ∷ rest)) → (In x rest → (k ≡ x) ⊎ In x ys) → (k ≡ x) ⊎ In x (y ∷ ys)
put_cases Less k y x ys rest (at_head e) f = inl e
put_cases Less k y x ys rest (in_tail i) f = inr i
put_cases Equal k y x ys rest i f = inr i
put_cases Greater k y x ys rest (at_head e) f = inr (at_head e)
put_cases Greater k y x ys rest (in_tail i) f = elim (f i) [ inl e ↦ inl e | inr j ↦ inr (in_tail j) ]

put_itself : {X : Type 0} (r : Ordering) (k y : X) (ys rest : List X) → (r ≡ Equal → k ≡ y) → In k rest → In k (match_ordering r (k ∷ y ∷ ys) (y ∷ ys) (y ∷ rest))
put_itself Less k y ys rest s i = at_head refl
put_itself Equal k y ys rest s i = at_head (sym (s refl))
put_itself Greater k y ys rest s i = in_tail i

put_beside : {X : Type 0} (r : Ordering) (k y x : X) (ys rest : List X) → In x (y ∷ ys) → (In x ys → In x rest) → In x (match_ordering r (k ∷ y ∷ ys) (y ∷ ys) (y ∷ rest))
put_beside Less k y x ys rest i f = in_tail i
put_beside Equal k y x ys rest i f = i
put_beside Greater k y x ys rest (at_head e) f = at_head e
put_beside Greater k y x ys rest (in_tail i) f = in_tail (f i)

put_all : {X : Type 0} (P : X → Type 0) (r : Ordering) (k y : X) (ys rest : List X) → P k → AllByRecursion P (y ∷ ys) → AllByRecursion P rest → AllByRecursion P (match_ordering r (k ∷ y ∷ ys) (y ∷ ys) (y ∷ rest))
put_all P Less k y ys rest p h i = (p, h)
put_all P Equal k y ys rest p h i = h
put_all P Greater k y ys rest p h i = (h.0, i)

module _ {X : Type 0} {R : X → X → Ordering} (total : IsTotalOrder R) (exact : CmpEqualImpliesEq R) where
  abbrev Below : X → List X → Type 0
  Below x xs = AllByRecursion (λ y. R x y ≡ Less) xs

  not_less : (x : X) → R x x ≡ Less → ⊥
  not_less x e = false≢true (sym (ap is_lt (tied_itself total x)) ∙ ap is_lt e)

  turned : (x y : X) → R x y ≡ Greater → R y x ≡ Less
  turned x y e = total.antisymm y x ∙ ap ordering_reverse e

  -- ---- two lists in order with the same items

  tails_among : (x : X) (xs ys : List X) → Below x xs → Among (x ∷ xs) (x ∷ ys) → Among xs ys
  tails_among x xs ys h f y i = by (f y (in_tail i))
    where
      by : In y (x ∷ ys) → In y ys
      by (at_head e) = absurd (not_less x (subst (λ z. R x z ≡ Less) (sym e) (in_all (λ z. R x z ≡ Less) xs h y i)))
      by (in_tail j) = j

  -- an item isn't less than those in front of it
  not_before : (x y : X) (ys : List X) → Below y ys → In x (y ∷ ys) → R x y ≡ Less → ⊥
  not_before x y ys h (at_head e) l = not_less x (subst (λ z. R x z ≡ Less) e l)
  not_before x y ys h (in_tail i) l = not_less x (total.trans x y x l (in_all (λ z. R y z ≡ Less) ys h x i))

  pub one_list : (xs ys : List X) → IsStrictlySortedBy R xs → IsStrictlySortedBy R ys → Among xs ys → Among ys xs → xs ≡ ys
  unfolding IsStrictlySortedBy
  one_list [] [] h k f g = refl
  one_list [] (y ∷ ys) h k f g = absurd (nothing_in y (g y (at_head refl)))
  one_list (x ∷ xs) [] h k f g = absurd (nothing_in x (f x (at_head refl)))
  one_list (x ∷ xs) (y ∷ ys) h k f g =
      let e : x ≡ y = by_order (R x y) (λ l. absurd (not_before x y ys k.0 (f x (at_head refl)) l)) (exact x y) (λ l. absurd (not_before y x xs h.0 (g y (at_head refl)) (turned x y l))) in
      let there : Among (x ∷ xs) (x ∷ ys) = subst (λ z. Among (x ∷ xs) (z ∷ ys)) (sym e) f in
      let back : Among (x ∷ ys) (x ∷ xs) = subst (λ z. Among (z ∷ ys) (x ∷ xs)) (sym e) g in
      let below : Below x ys = subst (λ z. Below z ys) (sym e) k.0 in
      let rest : xs ≡ ys = one_list xs ys h.1 k.1 (tails_among x xs ys h.0 there) (tails_among x ys xs below back) in
      ap (λ z. z ∷ xs) e ∙ ap (λ zs. y ∷ zs) rest

  -- ---- items put in order

  abbrev pub in_order : List X → List X
  in_order [] = []
  in_order (x ∷ xs) = insert_key R (in_order xs) x

  from_put : (ys : List X) (k x : X) → In x (insert_key R ys k) → (k ≡ x) ⊎ In x ys
  from_put [] k x (at_head e) = inl e
  from_put [] k x (in_tail i) = inr i
  from_put (y ∷ ys) k x i = put_cases (R k y) k y x ys (insert_key R ys k) i (from_put ys k x)

  put_here : (ys : List X) (k : X) → In k (insert_key R ys k)
  put_here [] k = at_head refl
  put_here (y ∷ ys) k = put_itself (R k y) k y ys (insert_key R ys k) (exact k y) (put_here ys k)

  put_on : (ys : List X) (k x : X) → In x ys → In x (insert_key R ys k)
  put_on [] k x i = elim i [ ]
  put_on (y ∷ ys) k x i = put_beside (R k y) k y x ys (insert_key R ys k) i (put_on ys k x)

  pub from_order : (xs : List X) (x : X) → In x (in_order xs) → In x xs
  from_order [] x i = elim i [ ]
  from_order (y ∷ xs) x i = elim (from_put (in_order xs) y x i) [ inl e ↦ at_head e | inr j ↦ in_tail (from_order xs x j) ]

  pub to_order : (xs : List X) (x : X) → In x xs → In x (in_order xs)
  to_order [] x i = elim i [ ]
  to_order (y ∷ xs) x (at_head e) = subst (λ z. In z (insert_key R (in_order xs) y)) e (put_here (in_order xs) y)
  to_order (y ∷ xs) x (in_tail i) = put_on (in_order xs) y x (to_order xs x i)

  below_on : (k y : X) (ys : List X) → R k y ≡ Less → Below y ys → Below k ys
  below_on k y [] e h = tt
  below_on k y (z ∷ ys) e h = (total.trans k y z e h.0, below_on k y ys e h.1)

  below_put : (y k : X) (ys : List X) → R y k ≡ Less → Below y ys → Below y (insert_key R ys k)
  below_put y k [] e h = (e, tt)
  below_put y k (z ∷ ys) e h = put_all (λ v. R y v ≡ Less) (R k z) k z ys (insert_key R ys k) e h (below_put y k ys e h.1)

  sorted_by : (r : Ordering) (k y : X) (ys rest : List X) → R k y ≡ r → IsStrictlySortedBy R (y ∷ ys) → IsStrictlySortedBy R rest → (R y k ≡ Less → Below y rest) → IsStrictlySortedBy R (match_ordering r (k ∷ y ∷ ys) (y ∷ ys) (y ∷ rest))
  unfolding IsStrictlySortedBy
  sorted_by Less k y ys rest e h i f = ((e, below_on k y ys e h.0), h)
  sorted_by Equal k y ys rest e h i f = h
  sorted_by Greater k y ys rest e h i f = (f (turned k y e), i)

  sorted_put : (ys : List X) (k : X) → IsStrictlySortedBy R ys → IsStrictlySortedBy R (insert_key R ys k)
  unfolding IsStrictlySortedBy
  sorted_put [] k h = (tt, tt)
  sorted_put (y ∷ ys) k h = sorted_by (R k y) k y ys (insert_key R ys k) refl h (sorted_put ys k h.1) (λ e. below_put y k ys e h.0)

  pub sorted_order : (xs : List X) → IsStrictlySortedBy R (in_order xs)
  unfolding IsStrictlySortedBy
  sorted_order [] = tt
  sorted_order (x ∷ xs) = sorted_put (in_order xs) x (sorted_order xs)

-- ---- the order of names tells all names apart

name_of : List ℕ × List ℕ → Name
name_of p = record { ns = p.0; local = p.1 }

pub names_exact : CmpEqualImpliesEq name_order
unfolding name_of
names_exact x y same = ap name_of (exact_pairs text_order text_order exact_bytes exact_bytes (x.ns, x.local) (y.ns, y.local) same)
