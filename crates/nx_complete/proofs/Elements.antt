-- Lists in order, and what is in them.
use Rattle.std.proofs.Common.{◌≡◌, ℕ, zero, suc, ◌<◌, List, [], ◌∷◌, ◌++◌, map, length, Bool, true, false, refl, sym, ap, subst, ◌∙◌, arith, ◌⊎◌, inl, inr}
use Rattle.std.specs.Prelude.{if◌then◌else◌, Contains, IsTrue}
use Rattle.std.specs.List.{AllByRecursion, filter}
use Rattle.std.specs.List.Sorted.{IsStrictlySortedBy}
use Rattle.std.specs.declared.cmp.Ordering.{Ordering}
use Rattle.std.specs.declared.cmp.Ordering.TheVariants.{Less}
use Rattle.std.proofs.lemmas.Bool.{cases_Bool, false≢true}
use Rattle.std.proofs.lemmas.List.Kept.{IsStrictlySortedBy-filter}

-- an item of a list
pub data In {X : Type 0} (x : X) : List X → Type 0 where
  at_head : {y : X} {xs : List X} → y ≡ x → In x (y ∷ xs)
  in_tail : {y : X} {xs : List X} → In x xs → In x (y ∷ xs)

pub to_in : {X : Type 0} (xs : List X) (x : X) → Contains xs x → In x xs
to_in [] x (k, lt, e) = absurd (omega arith)
to_in (y ∷ xs) x (zero, lt, e) = at_head e
to_in (y ∷ xs) x (suc k, lt, e) = in_tail (to_in xs x (k, omega arith, e))

pub from_in : {X : Type 0} (xs : List X) (x : X) → In x xs → Contains xs x
from_in [] x i = elim i [ ]
from_in (y ∷ xs) x (at_head e) = (zero, omega arith, e)
from_in (y ∷ xs) x (in_tail i) = let c = from_in xs x i in (suc c.0, omega (arith, c.1), c.2)

pub in_front : {X : Type 0} {x : X} {xs : List X} (ys : List X) → In x xs → In x (xs ++ ys)
in_front ys (at_head e) = at_head e
in_front ys (in_tail i) = in_tail (in_front ys i)

pub in_back : {X : Type 0} {x : X} (xs : List X) {ys : List X} → In x ys → In x (xs ++ ys)
in_back [] i = i
in_back (y ∷ xs) i = in_tail (in_back xs i)

pub in_either : {X : Type 0} {x : X} (xs ys : List X) → In x (xs ++ ys) → In x xs ⊎ In x ys
in_either [] ys i = inr i
in_either (y ∷ xs) ys (at_head e) = inl (at_head e)
in_either (y ∷ xs) ys (in_tail i) = elim (in_either xs ys i) [ inl j ↦ inl (in_tail j) | inr j ↦ inr j ]

-- ---- those that pass a test

pub record Passes {X : Type 0} (p : X → Bool) (xs : List X) (x : X) : Type 0 where
  pub inside : In x xs
  pub passes : p x ≡ true

passes_on : {X : Type 0} (p : X → Bool) (y : X) (xs : List X) (x : X) → Passes p xs x → Passes p (y ∷ xs) x
passes_on p y xs x h = record { inside = in_tail h.inside; passes = h.passes }

pub in_filter : {X : Type 0} (p : X → Bool) (xs : List X) (x : X) → In x (filter p xs) → Passes p xs x
in_filter p [] x i = elim i [ ]
in_filter {X} p (y ∷ xs) x i = by (p y) refl (in_filter p xs x) i
  where
    by : (b : Bool) → p y ≡ b → (In x (filter p xs) → Passes p xs x) → In x (if b then y ∷ filter p xs else filter p xs) → Passes p (y ∷ xs) x
    by true e more (at_head h) = record { inside = at_head h; passes = subst (λ (z : X). p z ≡ true) h e }
    by true e more (in_tail j) = passes_on p y xs x (more j)
    by false e more j = passes_on p y xs x (more j)

pub filter_in : {X : Type 0} (p : X → Bool) (xs : List X) (x : X) → In x xs → p x ≡ true → In x (filter p xs)
filter_in p [] x i h = elim i [ ]
filter_in {X} p (y ∷ xs) x (at_head e) h =
    let f : p y ≡ true = subst (λ (z : X). p z ≡ true) (sym e) h in
    rw f (at_head e)
filter_in {X} p (y ∷ xs) x (in_tail i) h = by (p y) (filter_in p xs x i h)
  where
    by : (b : Bool) → In x (filter p xs) → In x (if b then y ∷ filter p xs else filter p xs)
    by true j = in_tail j
    by false j = j

-- ---- what comes of each

pub record Maps {X Y : Type 0} (f : X → Y) (xs : List X) (y : Y) : Type 0 where
  pub from : X
  pub inside : In from xs
  pub is : f from ≡ y

pub in_map : {X Y : Type 0} (f : X → Y) (xs : List X) (y : Y) → In y (map f xs) → Maps f xs y
in_map f [] y i = elim i [ ]
in_map f (x ∷ xs) y (at_head e) = record { from = x; inside = at_head refl; is = e }
in_map f (x ∷ xs) y (in_tail i) = let m = in_map f xs y i in record { from = m.from; inside = in_tail m.inside; is = m.is }

pub map_in : {X Y : Type 0} (f : X → Y) {x : X} {xs : List X} → In x xs → In (f x) (map f xs)
map_in f (at_head e) = at_head (ap f e)
map_in f (in_tail i) = in_tail (map_in f i)

-- ---- in order

pub all_in : {X : Type 0} (P : X → Type 0) (xs : List X) → ((x : X) → In x xs → P x) → AllByRecursion P xs
all_in P [] h = tt
all_in P (x ∷ xs) h = (h x (at_head refl), all_in P xs (λ y i. h y (in_tail i)))

pub in_all : {X : Type 0} (P : X → Type 0) (xs : List X) → AllByRecursion P xs → (x : X) → In x xs → P x
in_all P [] h x i = elim i [ ]
in_all P (y ∷ xs) h x (at_head e) = subst P e h.0
in_all P (y ∷ xs) h x (in_tail i) = in_all P xs h.1 x i

-- lists in order, of which each item of the one stands before each of the other
pub sorted_append : {X : Type 0} (c : X → X → Ordering) (xs ys : List X) → IsStrictlySortedBy c xs → IsStrictlySortedBy c ys →
    ((x y : X) → In x xs → In y ys → c x y ≡ Less) → IsStrictlySortedBy c (xs ++ ys)
unfolding IsStrictlySortedBy
sorted_append c [] ys h k l = k
sorted_append {X} c (x ∷ xs) ys h k l = (
  all_in (λ (y : X). c x y ≡ Less) (xs ++ ys) (λ y i. elim (in_either xs ys i) [
    | inl j ↦ in_all (λ (y : X). c x y ≡ Less) xs h.0 y j
    | inr j ↦ l x y (at_head refl) j
  ]),
  sorted_append c xs ys h.1 k (λ a b i j. l a b (in_tail i) j),
)

-- what comes of items in order is in order, where the order is that of the items
pub sorted_map : {X Y : Type 0} (c : X → X → Ordering) (d : Y → Y → Ordering) (f : X → Y) (xs : List X) →
    ((x y : X) → In x xs → In y xs → c x y ≡ Less → d (f x) (f y) ≡ Less) → IsStrictlySortedBy c xs → IsStrictlySortedBy d (map f xs)
unfolding IsStrictlySortedBy
sorted_map c d f [] l h = tt
sorted_map {X} {Y} c d f (x ∷ xs) l h = (
  all_in (λ (y : Y). d (f x) y ≡ Less) (map f xs) (λ y i.
      let m = in_map f xs y i in
      subst (λ (z : Y). d (f x) z ≡ Less) m.is (l x m.from (at_head refl) (in_tail m.inside) (in_all (λ (y : X). c x y ≡ Less) xs h.0 m.from m.inside))),
  sorted_map c d f xs (λ a b i j. l a b (in_tail i) (in_tail j)) h.1,
)
