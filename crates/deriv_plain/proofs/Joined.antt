-- A way is merged with the first with which it can be, or comes last.
use Rattle.std.specs.Prelude.{◌≡◌, ℕ, ◌+◌, ◌<◌, ◌≤◌, List, [], ◌∷◌, ◌++◌, Bool, true, false, not, map, length, cond}
use Rattle.std.specs.List.{prefix_len}
use Rattle.std.proofs.Common.{suc, get_or, set, ap, sym, subst, ◌∙◌, arith}
use Rattle.rng_kept.specs.Residuals.{Way, Residual}
use Rattle.rng_kept.specs.Merging.{can_join_ways, joined_way, with_way}
use Rattle.deriv_plain.specs.declared.ways.OneWay.{OneWay}
use Rattle.deriv_plain.specs.Ways.{way_of}

module _ (w : Way) where
  -- with which it isn't merged
  abbrev pub is_apart : OneWay → Bool
  is_apart x = not (can_join_ways (way_of x) w)

  later_there : (x v d : OneWay) (xs : List OneWay) (n : ℕ) (more : Residual) →
      (n < length xs → way_of v ≡ joined_way (way_of (get_or xs n d)) w → map way_of (set xs n v) ≡ more) →
      suc n < length (x ∷ xs) → way_of v ≡ joined_way (way_of (get_or (x ∷ xs) (suc n) d)) w → map way_of (set (x ∷ xs) (suc n) v) ≡ way_of x ∷ more
  later_there x v d xs n more go inside is = ap (λ ys. way_of x ∷ ys) (go (omega arith) is)

  joined_case : (c : Bool) (m n : ℕ) → m ≡ suc n → (x v d : OneWay) (xs : List OneWay) (more : Residual) →
      (n < length xs → way_of v ≡ joined_way (way_of (get_or xs n d)) w → map way_of (set xs n v) ≡ more) →
      cond (not c) m 0 < length (x ∷ xs) → way_of v ≡ joined_way (way_of (get_or (x ∷ xs) (cond (not c) m 0) d)) w →
      map way_of (set (x ∷ xs) (cond (not c) m 0) v) ≡ cond c (joined_way (way_of x) w ∷ map way_of xs) (way_of x ∷ more)
  joined_case true m n e x v d xs more go inside is = ap (λ y. y ∷ map way_of xs) is
  joined_case false m n e x v d xs more go inside is =
      subst (λ (k : ℕ). k < length (x ∷ xs) → way_of v ≡ joined_way (way_of (get_or (x ∷ xs) k d)) w → map way_of (set (x ∷ xs) k v) ≡ way_of x ∷ more)
      (sym e) (later_there x v d xs n more go) inside is

  joined_there : (xs : List OneWay) (v d : OneWay) → prefix_len is_apart xs < length xs →
      way_of v ≡ joined_way (way_of (get_or xs (prefix_len is_apart xs) d)) w →
      map way_of (set xs (prefix_len is_apart xs) v) ≡ with_way (map way_of xs) w
  joined_there [] v d inside is = absurd (omega arith)
  joined_there (x ∷ xs) v d inside is =
      joined_case (can_join_ways (way_of x) w) (1 + prefix_len is_apart xs) (prefix_len is_apart xs) (omega arith) x v d xs (with_way (map way_of xs) w)
      (joined_there xs v d) inside is

  -- the way at this place is merged
  pub joined_at : (xs : List OneWay) (i : ℕ) (u v : OneWay) → i ≡ prefix_len is_apart xs → i < length xs → u ≡ get_or xs i u →
      way_of v ≡ joined_way (way_of u) w → map way_of (set xs i v) ≡ with_way (map way_of xs) w
  joined_at xs i u v first inside at is =
      subst (λ (k : ℕ). k < length xs → u ≡ get_or xs k u → map way_of (set xs k v) ≡ with_way (map way_of xs) w) (sym first)
      (λ within there. joined_there xs v u within (is ∙ ap (λ y. joined_way (way_of y) w) there)) inside at

  later_added : (x v : OneWay) (xs : List OneWay) (n : ℕ) (more : Residual) → (length xs ≤ n → map way_of (xs ++ v ∷ []) ≡ more) →
      length (x ∷ xs) ≤ suc n → map way_of ((x ∷ xs) ++ v ∷ []) ≡ way_of x ∷ more
  later_added x v xs n more go all = ap (λ ys. way_of x ∷ ys) (go (omega arith))

  added_case : (c : Bool) (m n : ℕ) → m ≡ suc n → (x v : OneWay) (xs : List OneWay) (more : Residual) →
      (length xs ≤ n → map way_of (xs ++ v ∷ []) ≡ more) → length (x ∷ xs) ≤ cond (not c) m 0 →
      map way_of ((x ∷ xs) ++ v ∷ []) ≡ cond c (joined_way (way_of x) w ∷ map way_of xs) (way_of x ∷ more)
  added_case true m n e x v xs more go all = absurd (omega arith)
  added_case false m n e x v xs more go all =
      subst (λ (k : ℕ). length (x ∷ xs) ≤ k → map way_of ((x ∷ xs) ++ v ∷ []) ≡ way_of x ∷ more) (sym e) (later_added x v xs n more go) all

  added_last : (xs : List OneWay) (v : OneWay) → way_of v ≡ w → length xs ≤ prefix_len is_apart xs →
      map way_of (xs ++ v ∷ []) ≡ with_way (map way_of xs) w
  added_last [] v is all = ap (λ y. y ∷ []) is
  added_last (x ∷ xs) v is all =
      added_case (can_join_ways (way_of x) w) (1 + prefix_len is_apart xs) (prefix_len is_apart xs) (omega arith) x v xs (with_way (map way_of xs) w)
      (added_last xs v is) all

  -- the way is merged with none
  pub added_behind : (xs ys : List OneWay) (v : OneWay) (i : ℕ) → way_of v ≡ w → ys ≡ xs ++ v ∷ [] → i ≡ prefix_len is_apart xs → length xs ≤ i →
      map way_of ys ≡ with_way (map way_of xs) w
  added_behind xs ys v i is push first all =
      ap (λ zs. map way_of zs) push ∙ added_last xs v is (subst (λ (k : ℕ). length xs ≤ k) first all)
