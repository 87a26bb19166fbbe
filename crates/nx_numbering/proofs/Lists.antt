-- Numbers by their places in lists.
use Rattle.std.proofs.Common.{◌≡◌, ℕ, zero, suc, ◌==◌, Bool, true, false, List, [], ◌∷◌, ◌++◌, map, length, refl, ap, ap₂, subst, ◌∙◌, Option, Some, None, inl, inr, arith}
use Rattle.std.specs.Prelude.{slice_get, if◌then◌else◌, Contains}
use Rattle.std.specs.List.{AllByRecursion, IsDistinct}
use Rattle.std.proofs.lemmas.Bool.Decides.{nat_tests}
use Rattle.std.proofs.lemmas.Option.{slice_get_cases, slice_get_within, same_Some}
use Rattle.rng_simplify.proofs.Nodes.{in_cases, in_none}

pub differ : (a b : ℕ) → (a == b) ≡ false → a ≡ b → ⊥
differ a b e same = grind (arith, nat_tests)

pub equal : (a b : ℕ) → (a == b) ≡ true → a ≡ b
equal a b e = grind (arith, nat_tests)

pub itself_equal : (a : ℕ) → (a == a) ≡ true
itself_equal a = grind (arith, nat_tests)

-- ---- the place of a number

abbrev pub one_behind : Option ℕ → Option ℕ
one_behind None = None
one_behind (Some k) = Some (suc k)

abbrev pub place_in : List ℕ → ℕ → Option ℕ
place_in [] v = None
place_in (x ∷ xs) v = if x == v then Some 0 else one_behind (place_in xs v)

pub record IsPlaced (xs : List ℕ) (v : ℕ) : Type 0 where
  pub place : ℕ
  pub found : place_in xs v ≡ Some place
  pub there : slice_get xs place ≡ Some v

pub is_placed : (xs : List ℕ) (v j : ℕ) → slice_get xs j ≡ Some v → IsPlaced xs v
is_placed [] v j at = let never : ⊥ = cc in absurd never
is_placed (x ∷ xs) v zero at =
    let same : x ≡ v = cc in
    let t : (x == v) ≡ true = subst (λ y. (x == y) ≡ true) same (itself_equal x) in
    record { place = 0; found = ap (λ (b : Bool). if b then Some 0 else one_behind (place_in xs v)) t; there = at }
is_placed (x ∷ xs) v (suc j) at = by (x == v) refl (is_placed xs v j at)
  where
    by : (b : Bool) → (x == v) ≡ b → IsPlaced xs v → IsPlaced (x ∷ xs) v
    by true e rest = record { place = 0; found = ap (λ (b : Bool). if b then Some 0 else one_behind (place_in xs v)) e; there = ap (λ y. Some y) (equal x v e) }
    by false e rest = record { place = suc rest.place; found = ap (λ (b : Bool). if b then Some 0 else one_behind (place_in xs v)) e ∙ ap one_behind rest.found; there = rest.there }

-- ---- the number that stands for another in a second list

-- what stands in the second list where a number stands in the first
abbrev pub stands_for : ℕ → List ℕ → List ℕ → ℕ → ℕ
stands_for none [] ys n = none
stands_for none (x ∷ xs) [] n = none
stands_for none (x ∷ xs) (y ∷ ys) n = if x == n then y else stands_for none xs ys n

-- other numbers stand for none
pub others_stand : (none : ℕ) (xs ys : List ℕ) (n : ℕ) → ((j : ℕ) → slice_get xs j ≡ Some n → ⊥) → stands_for none xs ys n ≡ none
others_stand none [] ys n never = refl
others_stand none (x ∷ xs) [] n never = refl
others_stand none (x ∷ xs) (y ∷ ys) n never = by (x == n) refl (others_stand none xs ys n (λ j at. never (suc j) at))
  where
    by : (b : Bool) → (x == n) ≡ b → stands_for none xs ys n ≡ none → (if x == n then y else stands_for none xs ys n) ≡ none
    by true e on = absurd (never 0 (ap (λ m. Some m) (equal x n e)))
    by false e on = ap (λ (b : Bool). if b then y else stands_for none xs ys n) e ∙ on

-- in place of a list that has each number once the other one comes
behind_first : (none x y : ℕ) (xs ys zs : List ℕ) → AllByRecursion (λ n. (x == n) ≡ false) zs → map (stands_for none (x ∷ xs) (y ∷ ys)) zs ≡ map (stands_for none xs ys) zs
behind_first none x y xs ys [] apart = refl
behind_first none x y xs ys (z ∷ zs) apart =
    ap₂ (λ n ns. n ∷ ns) (ap (λ (b : Bool). if b then y else stands_for none xs ys z) apart.0) (behind_first none x y xs ys zs apart.1)

pub comes_for : (none : ℕ) (xs ys : List ℕ) → IsDistinct (λ a b. a == b) xs → length xs ≡ length ys → map (stands_for none xs ys) xs ≡ ys
unfolding IsDistinct
comes_for none [] [] distinct same = refl
comes_for none [] (y ∷ ys) distinct same = absurd (omega (arith, same))
comes_for none (x ∷ xs) [] distinct same = absurd (omega (arith, same))
comes_for none (x ∷ xs) (y ∷ ys) distinct same =
    ap₂ (λ n ns. n ∷ ns) (ap (λ (b : Bool). if b then y else stands_for none xs ys x) (itself_equal x))
    (behind_first none x y xs ys xs distinct.0 ∙ comes_for none xs ys distinct.1 (omega (arith, same)))

-- a number stands at a place
pub record IsAt (xs : List ℕ) (n : ℕ) : Type 0 where
  pub place : ℕ
  pub is : slice_get xs place ≡ Some n

pub is_at : (xs : List ℕ) (n : ℕ) → Contains xs n → IsAt xs n
is_at [] n among = absurd (in_none among)
is_at (x ∷ xs) n among = elim (in_cases x xs n among) [
  | inl same ↦ record { place = 0; is = ap (λ m. Some m) same }
  | inr more ↦ (let at = is_at xs n more in record { place = suc at.place; is = at.is })
]

apart_at : (x : ℕ) (xs : List ℕ) (j n : ℕ) → AllByRecursion (λ m. (x == m) ≡ false) xs → slice_get xs j ≡ Some n → (x == n) ≡ false
apart_at x [] j n apart at = let never : ⊥ = cc in absurd never
apart_at x (y ∷ ys) zero n apart at = subst (λ m. (x == m) ≡ false) (same_Some y n at) apart.0
apart_at x (y ∷ ys) (suc j) n apart at = apart_at x ys j n apart.1 at

-- what stands at its place in the second list stands for a number
stands_at : (none : ℕ) (xs ys : List ℕ) (j n m : ℕ) → IsDistinct (λ a b. a == b) xs → slice_get xs j ≡ Some n → slice_get ys j ≡ Some m
    → stands_for none xs ys n ≡ m
unfolding IsDistinct
stands_at none [] ys j n m distinct at there = let never : ⊥ = cc in absurd never
stands_at none (x ∷ xs) [] j n m distinct at there = let never : ⊥ = cc in absurd never
stands_at none (x ∷ xs) (y ∷ ys) zero n m distinct at there =
    let same : x ≡ n = cc in
    let t : (x == n) ≡ true = subst (λ z. (x == z) ≡ true) same (itself_equal x) in
    let is : y ≡ m = cc in
    ap (λ (b : Bool). if b then y else stands_for none xs ys n) t ∙ is
stands_at none (x ∷ xs) (y ∷ ys) (suc j) n m distinct at there =
    ap (λ (b : Bool). if b then y else stands_for none xs ys n) (apart_at x xs j n distinct.0 at) ∙ stands_at none xs ys j n m distinct.1 at there

-- and it stands for that one
pub stands_back : (none past : ℕ) (xs ys : List ℕ) (n : ℕ) → IsDistinct (λ a b. a == b) xs → IsDistinct (λ a b. a == b) ys → length xs ≡ length ys
    → IsAt xs n → stands_for past ys xs (stands_for none xs ys n) ≡ n
stands_back none past xs ys n distinct others same at =
    let within = slice_get_within xs at.place n at.is in
    elim (slice_get_cases ys at.place).1 [
      | inl found ↦
          ap (stands_for past ys xs) (stands_at none xs ys at.place n found.0 distinct at.is found.2)
          ∙ stands_at past ys xs at.place found.0 n others found.2 at.is
      | inr far ↦ absurd (omega (arith, within, far.0, same))
    ]

-- ---- two lists that are parted alike

pub record PartedAlike (a b c d : List ℕ) : Type 0 where
  pub front : a ≡ c
  pub behind : b ≡ d

pub parted_alike : (a b c d : List ℕ) → length a ≡ length c → a ++ b ≡ c ++ d → PartedAlike a b c d
parted_alike [] b [] d same e = record { front = refl; behind = e }
parted_alike [] b (y ∷ c) d same e = absurd (omega (arith, same))
parted_alike (x ∷ a) b [] d same e = absurd (omega (arith, same))
parted_alike (x ∷ a) b (y ∷ c) d same e =
    let first : x ≡ y = cc in
    let rest : a ++ b ≡ c ++ d = cc in
    let on = parted_alike a b c d (omega (arith, same)) rest in
    record { front = ap₂ (λ n ns. n ∷ ns) first on.front; behind = on.behind }

pub map-parts : (f : ℕ → ℕ) (a b : List ℕ) → map f (a ++ b) ≡ map f a ++ map f b
map-parts f [] b = refl
map-parts f (x ∷ a) b = ap (λ ns. f x ∷ ns) (map-parts f a b)

pub map-long : (f : ℕ → ℕ) (a : List ℕ) → length (map f a) ≡ length a
map-long f [] = refl
map-long f (x ∷ a) = ap suc (map-long f a)
