-- Numbers just beyond another, further from zero: where bounds leave room, some bound or zero has them between all bounds.
use Rattle.std.specs.Prelude.{◌≡◌, ℕ, ◌+◌, ◌-◌, ◌*◌, ◌^◌, ◌<◌, ◌≤◌, ◌⊎◌, ℤ, pos, neg_ℤ, ◌+ℤ◌, ◌-ℤ◌, ◌<ℤ◌, ◌≤ℤ◌, Bool, true, false, not, ◌||◌, ◌&&◌, List, [], ◌∷◌, length, map}
use Rattle.std.proofs.Common.{refl, sym, ap, ◌∙◌, subst, arith, inl, inr}
use Rattle.std.proofs.lemmas.Bool.{and_from, cases_Bool, false≢true}
use Rattle.std.proofs.lemmas.Int.{ints, by_lt_z}
use Rattle.std.specs.List.{list_all, AllByRecursion}
use Rattle.std.specs.Ordering.{is_lt}
use Rattle.rng_types.specs.Numbers.{Number, number_of, times, compared, is_decimal, is_negative}
use Rattle.rng_types.specs.NumberMembers.{is_number_bound, is_number_left, is_number_met, limit_over, over, is_lower, is_upper, leaves_room, has_room}
use Rattle.rng_types.specs.Giving.{pointed, extended}
use Rattle.rng_types.specs.declared.facet.Relation.{Relation}
use Rattle.rng_types.specs.declared.facet.Facet.{Facet}
use Rattle.rng_types.specs.declared.facet.Facet.TheVariants.{Length, Bound}
use Rattle.rng_types.specs.declared.datatype.Except.{Except}
use Rattle.rng_types.proofs.Scaled.{is_met}
use Rattle.rng_types.proofs.Ends.{met_says, says_between}
use Rattle.rng_types.proofs.LeftOver.{Found}
use Rattle.rng_types.proofs.Numeric.{all_same, IsWithin, met_facets, met-same, left-over}
use Rattle.rng_types.proofs.Parted.{extended_is}
use Rattle.rng_types.proofs.Room.{scaled, less_at, not_less_at, gap_at}
use Rattle.rng_types.proofs.Whole.{number_left}
use Rattle.rng_types.proofs.Within.{In, all_at, each_at}

-- a number whose digits go on
abbrev pub beyond : Number → ℕ → ℕ → Number
beyond x k n = record { negative = x.negative; digits = x.digits * 10 ^ (k + 3) + n; places = x.places + (k + 3) }

-- over its power of ten it lies that far from the number, away from zero
abbrev away : Bool → ℤ → ℕ → ℤ
away true z n = z -ℤ pos n
away false z n = z +ℤ pos n

away_case : (b : Bool) (d e m n : ℕ) → m ≡ e → times (record { negative = b; digits = d * 10 ^ e + n; places = 0 }) 1 ≡ away b (times (record { negative = b; digits = d; places = 0 }) (10 ^ m)) n
away_case true d e m n same = rw same (omega (arith, ints))
away_case false d e m n same = rw same (omega (arith, ints))

beyond_at : (x : Number) (k n : ℕ) → times (beyond x k n) 1 ≡ away x.negative (scaled (x.places + (k + 3)) x) n
beyond_at x k n = away_case x.negative x.digits (k + 3) (x.places + (k + 3) - x.places) n (omega arith)

away_apart : (b : Bool) (z : ℤ) (i j : ℕ) → away b z (i + 1) ≡ away b z (j + 1) → i ≡ j
away_apart true z i j same = omega (arith, ints, same)
away_apart false z i j same = omega (arith, ints, same)

-- where it is to lie between other numbers: the number itself may be an end on the side of zero
abbrev pub Spares : Bool → Relation → ℤ → ℤ → Type 0
Spares false relation v z = (is_lower relation ≡ true → z ≤ℤ v) × (is_upper relation ≡ true → v <ℤ z)
Spares true relation v z = (is_lower relation ≡ true → z <ℤ v) × (is_upper relation ≡ true → v ≤ℤ z)

-- so it lies there, over a greater power of ten
abbrev Leaves : Bool → Relation → ℤ → ℤ → Type 0
Leaves false relation v z = (is_lower relation ≡ true → z ≤ℤ v) × (is_upper relation ≡ true → (v +ℤ pos 1000) ≤ℤ z)
Leaves true relation v z = (is_lower relation ≡ true → (z +ℤ pos 1000) ≤ℤ v) × (is_upper relation ≡ true → v ≤ℤ z)

less_from : (s : ℕ) (x y : Number) → x.places ≤ s → y.places ≤ s → scaled s x <ℤ scaled s y → is_lt (compared x y) ≡ true
less_from s x y small small' below = elim (cases_Bool (is_lt (compared x y))) [
  | inl less ↦ less
  | inr not_less ↦ absurd (let above = not_less_at s x y small small' not_less in omega (arith, ints, above, below))
]

not_less_from : (s : ℕ) (x y : Number) → x.places ≤ s → y.places ≤ s → scaled s y ≤ℤ scaled s x → is_lt (compared x y) ≡ false
not_less_from s x y small small' above = elim (cases_Bool (is_lt (compared x y))) [
  | inl less ↦ absurd (let below = less_at s x y small small' less in omega (arith, ints, above, below))
  | inr not_less ↦ not_less
]

far_at : (k p : ℕ) (x y : Number) → x.places ≤ k → y.places ≤ k → scaled k x <ℤ scaled k y → (scaled (p + (k + 3)) x +ℤ pos 1000) ≤ℤ scaled (p + (k + 3)) y
far_at k p x y small small' below =
    let gap = gap_at (p + k) 3 x y (omega (arith, small)) (omega (arith, small')) (less_from k x y small small' below) in
    let same : p + k + 3 ≡ p + (k + 3) = omega arith in
    let P : ℕ → Type 0 = λ s. (scaled s x +ℤ pos 1000) ≤ℤ scaled s y in
    subst P same gap

near_at : (k p : ℕ) (x y : Number) → x.places ≤ k → y.places ≤ k → scaled k y ≤ℤ scaled k x → scaled (p + (k + 3)) y ≤ℤ scaled (p + (k + 3)) x
near_at k p x y small small' above = not_less_at (p + (k + 3)) x y (omega (arith, small)) (omega (arith, small')) (not_less_from k x y small small' above)

leaves_case : (b : Bool) (relation : Relation) (k p : ℕ) (x y : Number) → x.places ≤ k → y.places ≤ k → Spares b relation (scaled k x) (scaled k y) → Leaves b relation (scaled (p + (k + 3)) x) (scaled (p + (k + 3)) y)
leaves_case true relation k p x y small small' spares = (λ lower. far_at k p y x small' small (spares.0 lower), λ upper. near_at k p y x small' small (spares.1 upper))
leaves_case false relation k p x y small small' spares = (λ lower. near_at k p x y small small' (spares.0 lower), λ upper. far_at k p x y small small' (spares.1 upper))

met_case : (b : Bool) (relation : Relation) (w v z : ℤ) (n : ℕ) → w ≡ away b v n → 1 ≤ n → n < 1000 → Leaves b relation v z → is_met w (record { relation = relation; at = z }) ≡ true
met_case true relation w v z n is some small leaves =
    (met_says w (record { relation = relation; at = z })).1
    (says_between relation w z (λ lower. let h = leaves.0 lower in omega (arith, ints, is, some, small, h)) (λ upper. let h = leaves.1 upper in omega (arith, ints, is, some, small, h)))
met_case false relation w v z n is some small leaves =
    (met_says w (record { relation = relation; at = z })).1
    (says_between relation w z (λ lower. let h = leaves.0 lower in omega (arith, ints, is, some, small, h)) (λ upper. let h = leaves.1 upper in omega (arith, ints, is, some, small, h)))

-- a literal just beyond which all bounds are met
pub record IsBase (k : ℕ) (facets : List Facet) (base : List ℕ) : Type 0 where
  pub decimal : is_decimal base ≡ true
  pub places : (number_of base).places ≤ k
  pub spares : (g : Facet) → In g facets → Spares (is_negative base) (limit_over k g).relation (scaled k (number_of base)) (limit_over k g).at

beyond_met : (k n : ℕ) (x : Number) (facets : List Facet) → x.places ≤ k → AllByRecursion (IsWithin k) facets → 1 ≤ n → n < 1000 →
    ((g : Facet) → In g facets → Spares x.negative (limit_over k g).relation (scaled k x) (limit_over k g).at) → list_all (is_met (times (beyond x k n) 1)) (map (limit_over (x.places + (k + 3))) facets) ≡ true
beyond_met k n x [] small within some few spares = refl
beyond_met k n x (Length relation limit ∷ facets) small within some few spares = absurd within.0
beyond_met k n x (Bound relation limit ∷ facets) small within some few spares =
    let leaves = leaves_case x.negative relation k x.places x (number_of limit) small within.0 (spares (Bound relation limit) (inl refl)) in
    and_from _ _ (met_case x.negative relation (times (beyond x k n) 1) (scaled (x.places + (k + 3)) x) (scaled (x.places + (k + 3)) (number_of limit)) n (beyond_at x k n) some few leaves)
    (beyond_met k n x facets small within.1 some few (λ g inside. spares g (inr inside)))

within_more : (k s : ℕ) (facets : List Facet) → k ≤ s → AllByRecursion (IsWithin k) facets → AllByRecursion (IsWithin s) facets
within_more k s [] more within = tt
within_more k s (Length relation limit ∷ facets) more within = absurd within.0
within_more k s (Bound relation limit ∷ facets) more within = (omega (arith, more, within.0), within_more k s facets more within.1)

-- the first of them meets all bounds
pub first_met : (k : ℕ) (facets : List Facet) (base : List ℕ) → AllByRecursion (IsWithin k) facets → IsBase k facets base → list_all (is_number_met (number_of (extended (pointed base) k 1))) facets ≡ true
first_met k facets base within is =
    let x = number_of base in
    let s : ℕ = x.places + (k + 3) in
    ap (λ y. list_all (is_number_met y) facets) (extended_is base k 1 is.decimal (omega arith)).number
    ∙ all_same (is_number_met (beyond x k 1)) (is_number_met (over s (times (beyond x k 1) 1))) (met-same (beyond x k 1)) facets
    ∙ met_facets s (times (beyond x k 1) 1) facets (within_more k s facets (omega arith) within)
    ∙ beyond_met k 1 x facets is.places within (omega arith) (omega arith) is.spares

-- and one of them is left
pub base_left : (k : ℕ) (facets : List Facet) (excepts : List Except) (base : List ℕ) → AllByRecursion (IsWithin k) facets → length excepts ≤ 129 → IsBase k facets base →
    Found (λ i. is_number_left facets excepts (number_of (extended (pointed base) k (i + 1)))) 130
base_left k facets excepts base within few is =
    let x = number_of base in
    let s : ℕ = x.places + (k + 3) in
    let candidate : ℕ → ℤ = λ i. times (beyond x k (i + 1)) 1 in
    let apart : (i j : ℕ) → candidate i ≡ candidate j → i ≡ j = λ i j same. away_apart x.negative (scaled s x) i j (sym (beyond_at x k (i + 1)) ∙ same ∙ beyond_at x k (j + 1)) in
    let left = number_left s facets excepts candidate (within_more k s facets (omega arith) within) apart
    (λ i inside. beyond_met k (i + 1) x facets is.places within (omega arith) (omega (arith, inside, few)) is.spares) in
    record {
      at = left.at;
      below = omega (arith, left.below, few);
      passes =
          ap (is_number_left facets excepts) (extended_is base k (left.at + 1) is.decimal (omega (arith, left.below, few))).number
          ∙ left-over facets excepts (beyond x k (left.at + 1)) ∙ left.passes;
    }

-- ---- where bounds leave room there is such a literal

-- the item with the greatest value among those that pass a test
record Top (test : Facet → Bool) (v : Facet → ℤ) (facets : List Facet) : Type 0 where
  item : Facet
  inside : In item facets
  passes : test item ≡ true
  most : (g : Facet) → In g facets → test g ≡ true → v g ≤ℤ v item

abbrev Tops : (Facet → Bool) → (Facet → ℤ) → List Facet → Type 0
Tops test v facets = ((g : Facet) → In g facets → test g ≡ true → ⊥) ⊎ Top test v facets

top_skipped : (test : Facet → Bool) (v : Facet → ℤ) (f : Facet) (facets : List Facet) → test f ≡ false → Tops test v facets → Tops test v (f ∷ facets)
top_skipped test v f facets fails (inl none) = inl (λ g inside passes. elim inside [ inl same ↦ false≢true (sym fails ∙ ap test (sym same) ∙ passes) | inr more ↦ none g more passes ])
top_skipped test v f facets fails (inr top) = inr (record {
  item = top.item;
  inside = inr top.inside;
  passes = top.passes;
  most = λ g inside passes. elim inside [ inl same ↦ absurd (false≢true (sym fails ∙ ap test (sym same) ∙ passes)) | inr more ↦ top.most g more passes ];
})

value_same : (v : Facet → ℤ) (g f : Facet) → g ≡ f → v g ≤ℤ v f
value_same v g f same = let h : v g ≡ v f = ap v same in omega (arith, ints, h)

top_taken : (test : Facet → Bool) (v : Facet → ℤ) (f : Facet) (facets : List Facet) → test f ≡ true → Tops test v facets → Top test v (f ∷ facets)
top_taken test v f facets is (inl none) = record {
  item = f;
  inside = inl refl;
  passes = is;
  most = λ g inside passes. elim inside [ inl same ↦ value_same v g f same | inr more ↦ absurd (none g more passes) ];
}
top_taken test v f facets is (inr top) =
    by_lt_z (v f) (v top.item)
    (λ less. record {
      item = top.item;
      inside = inr top.inside;
      passes = top.passes;
      most = λ g inside passes. elim inside [ inl same ↦ (let h = value_same v g f same in omega (arith, ints, h, less)) | inr more ↦ top.most g more passes ];
    })
    (λ above. record {
      item = f;
      inside = inl refl;
      passes = is;
      most = λ g inside passes. elim inside [ inl same ↦ value_same v g f same | inr more ↦ (let h = top.most g more passes in omega (arith, ints, h, above)) ];
    })

top_of : (test : Facet → Bool) (v : Facet → ℤ) (facets : List Facet) → Tops test v facets
top_of test v [] = inl (λ g inside passes. inside)
top_of test v (f ∷ facets) = elim (cases_Bool (test f)) [
  | inl is ↦ inr (top_taken test v f facets is (top_of test v facets))
  | inr fails ↦ top_skipped test v f facets fails (top_of test v facets)
]

room_less : (a b less : Bool) → (not (a && b) || less) ≡ true → a ≡ true → b ≡ true → less ≡ true
room_less true true less room first second = room
room_less true false less room first second = absurd (false≢true second)
room_less false b less room first second = absurd (false≢true first)

-- each lower end is below each upper one
room_ends : (k : ℕ) (facets : List Facet) → AllByRecursion (IsWithin k) facets → has_room facets ≡ true → (f g : Facet) → In f facets → In g facets →
    is_lower (limit_over k f).relation ≡ true → is_upper (limit_over k g).relation ≡ true → (limit_over k f).at <ℤ (limit_over k g).at
room_ends k facets within room (Length relation limit) g in_f in_g lower upper = absurd (each_at (IsWithin k) (Length relation limit) facets within in_f)
room_ends k facets within room (Bound relation limit) (Length other length) in_f in_g lower upper = absurd (each_at (IsWithin k) (Length other length) facets within in_g)
room_ends k facets within room (Bound relation limit) (Bound other length) in_f in_g lower upper =
    let pair = all_at (leaves_room (Bound relation limit)) (Bound other length) facets (all_at (λ f. list_all (leaves_room f) facets) (Bound relation limit) facets room in_f) in_g in
    less_at k (number_of limit) (number_of length) (each_at (IsWithin k) (Bound relation limit) facets within in_f) (each_at (IsWithin k) (Bound other length) facets within in_g)
    (room_less (is_lower relation) (is_upper other) _ pair lower upper)

-- it is zero, with either sign, or the limit of a bound
abbrev pub From : List ℕ → List Facet → Type 0
From base facets = (base ≡ 48 ∷ []) ⊎ ((base ≡ 45 ∷ 48 ∷ []) ⊎ ((relation : Relation) × In (Bound relation base) facets))

pub record Chosen (k : ℕ) (facets : List Facet) : Type 0 where
  pub base : List ℕ
  pub is : IsBase k facets base
  pub from : From base facets

abbrev negative_of : Facet → Bool
negative_of (Length relation limit) = false
negative_of (Bound relation limit) = is_negative limit

sign_says : (b : Bool) (m : ℕ) (z : ℤ) → z ≡ times (record { negative = b; digits = m; places = 0 }) 1 → (b ≡ true → z ≤ℤ pos 0) × (b ≡ false → pos 0 ≤ℤ z)
sign_says true m z is = (λ _. omega (arith, ints, is), λ no. absurd (false≢true (sym no)))
sign_says false m z is = (λ no. absurd (false≢true no), λ _. omega (arith, ints, is))

scaled_case : (b : Bool) (d m : ℕ) → times (record { negative = b; digits = d; places = 0 }) m ≡ times (record { negative = b; digits = d * m; places = 0 }) 1
scaled_case true d m = let same : d * m ≡ d * m * 1 = omega arith in ap (λ n. neg_ℤ (pos n)) same
scaled_case false d m = let same : d * m ≡ d * m * 1 = omega arith in ap pos same

end_sign : (k : ℕ) (f : Facet) → (negative_of f ≡ true → (limit_over k f).at ≤ℤ pos 0) × (negative_of f ≡ false → pos 0 ≤ℤ (limit_over k f).at)
end_sign k (Length relation limit) = (λ no. absurd (false≢true no), λ _. omega (arith, ints))
end_sign k (Bound relation limit) =
    let x = number_of limit in
    let m : ℕ = 10 ^ (k - x.places) in
    sign_says x.negative (x.digits * m) (times x m) (scaled_case x.negative x.digits m)

limit_chosen : (k : ℕ) (facets : List Facet) (f : Facet) → list_all is_number_bound facets ≡ true → AllByRecursion (IsWithin k) facets → In f facets →
    ((g : Facet) → In g facets → Spares (negative_of f) (limit_over k g).relation (limit_over k f).at (limit_over k g).at) → Chosen k facets
limit_chosen k facets (Length relation limit) bounds within inside spares = absurd (each_at (IsWithin k) (Length relation limit) facets within inside)
limit_chosen k facets (Bound relation limit) bounds within inside spares = record {
  base = limit;
  is = record { decimal = all_at is_number_bound (Bound relation limit) facets bounds inside; places = each_at (IsWithin k) (Bound relation limit) facets within inside; spares = spares };
  from = inr (inr (relation, inside));
}

zero_scaled : (b : Bool) (k : ℕ) → times (record { negative = b; digits = 0; places = 0 }) (10 ^ (k - 0)) ≡ pos 0
zero_scaled true k = let none : 0 * 10 ^ (k - 0) ≡ 0 = omega arith in ap (λ n. neg_ℤ (pos n)) none
zero_scaled false k = let none : 0 * 10 ^ (k - 0) ≡ 0 = omega arith in ap pos none

zero_chosen : (k : ℕ) (facets : List Facet) → ((g : Facet) → In g facets → Spares false (limit_over k g).relation (pos 0) (limit_over k g).at) → Chosen k facets
zero_chosen k facets spares = record {
  base = 48 ∷ [];
  is = record {
    decimal = refl;
    places = omega arith;
    spares = λ g inside. let P : ℤ → Type 0 = λ z. Spares false (limit_over k g).relation z (limit_over k g).at in subst P (sym (zero_scaled false k)) (spares g inside);
  };
  from = inl refl;
}

minus_chosen : (k : ℕ) (facets : List Facet) → ((g : Facet) → In g facets → Spares true (limit_over k g).relation (pos 0) (limit_over k g).at) → Chosen k facets
minus_chosen k facets spares = record {
  base = 45 ∷ 48 ∷ [];
  is = record {
    decimal = refl;
    places = omega arith;
    spares = λ g inside. let P : ℤ → Type 0 = λ z. Spares true (limit_over k g).relation z (limit_over k g).at in subst P (sym (zero_scaled true k)) (spares g inside);
  };
  from = inr (inl refl);
}

-- no lower end is above zero, or the greatest has no `-`; and likewise no upper one is below, or the least has `-`
record Low (k : ℕ) (facets : List Facet) (f : Facet) : Type 0 where
  inside : In f facets
  lower : is_lower (limit_over k f).relation ≡ true
  plain : negative_of f ≡ false
  most : (g : Facet) → In g facets → is_lower (limit_over k g).relation ≡ true → (limit_over k g).at ≤ℤ (limit_over k f).at

record High (k : ℕ) (facets : List Facet) (f : Facet) : Type 0 where
  inside : In f facets
  upper : is_upper (limit_over k f).relation ≡ true
  least : (g : Facet) → In g facets → is_upper (limit_over k g).relation ≡ true → (limit_over k f).at ≤ℤ (limit_over k g).at

abbrev NoneAbove : ℕ → List Facet → Type 0
NoneAbove k facets = (g : Facet) → In g facets → is_lower (limit_over k g).relation ≡ true → (limit_over k g).at ≤ℤ pos 0

low_of : (k : ℕ) (facets : List Facet) → NoneAbove k facets ⊎ ((f : Facet) × Low k facets f)
low_of k facets = elim (top_of (λ g. is_lower (limit_over k g).relation) (λ g. (limit_over k g).at) facets) [
  | inl none ↦ inl (λ g inside lower. absurd (none g inside lower))
  | inr top ↦ elim (cases_Bool (negative_of top.item)) [
    | inl minus ↦ inl (λ g inside lower. let h = top.most g inside lower in let e = (end_sign k top.item).0 minus in omega (arith, ints, h, e))
    | inr plain ↦ inr (top.item, record { inside = top.inside; lower = top.passes; plain = plain; most = top.most })
  ]
]

high_of : (k : ℕ) (facets : List Facet) → ((g : Facet) → In g facets → is_upper (limit_over k g).relation ≡ true → ⊥) ⊎ ((f : Facet) × High k facets f)
high_of k facets = elim (top_of (λ g. is_upper (limit_over k g).relation) (λ g. pos 0 -ℤ (limit_over k g).at) facets) [
  | inl none ↦ inl none
  | inr top ↦ inr (top.item, record { inside = top.inside; upper = top.passes; least = λ g inside upper. let h = top.most g inside upper in omega (arith, ints, h) })
]

high_chosen : (k : ℕ) (facets : List Facet) (f : Facet) → list_all is_number_bound facets ≡ true → AllByRecursion (IsWithin k) facets → has_room facets ≡ true → NoneAbove k facets → High k facets f → Chosen k facets
high_chosen k facets f bounds within room above high = elim (cases_Bool (negative_of f)) [
  | inl minus ↦
      limit_chosen k facets f bounds within high.inside
      (λ g inside. let P : Bool → Type 0 = λ b. Spares b (limit_over k g).relation (limit_over k f).at (limit_over k g).at in
      subst P (sym minus) (λ lower. room_ends k facets within room g f inside high.inside lower high.upper, λ upper. high.least g inside upper))
  | inr plain ↦
      by_lt_z (pos 0) (limit_over k f).at
      (λ some. zero_chosen k facets (λ g inside. (λ lower. above g inside lower, λ upper. let h = high.least g inside upper in omega (arith, ints, h, some))))
      (λ none. minus_chosen k facets (λ g inside. (
        λ lower. let h = room_ends k facets within room g f inside high.inside lower high.upper in omega (arith, ints, h, none),
        λ upper. let h = high.least g inside upper in let e = (end_sign k f).1 plain in omega (arith, ints, h, e),
      )))
]

pub chosen : (k : ℕ) (facets : List Facet) → list_all is_number_bound facets ≡ true → AllByRecursion (IsWithin k) facets → has_room facets ≡ true → Chosen k facets
chosen k facets bounds within room = elim (low_of k facets) [
  | inr low ↦
      (let f = low.0 in let is = low.1 in
      limit_chosen k facets f bounds within is.inside
      (λ g inside. let P : Bool → Type 0 = λ b. Spares b (limit_over k g).relation (limit_over k f).at (limit_over k g).at in
      subst P (sym is.plain) (λ lower. is.most g inside lower, λ upper. room_ends k facets within room f g is.inside inside is.lower upper)))
  | inl above ↦ elim (high_of k facets) [
    | inl none ↦ zero_chosen k facets (λ g inside. (λ lower. above g inside lower, λ upper. absurd (none g inside upper)))
    | inr high ↦ high_chosen k facets high.0 bounds within room above high.1
  ]
]
