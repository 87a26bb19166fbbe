-- A set of names in two parts, as the tree keeps it.
use Rattle.std.proofs.Common.{◌≡◌, ℕ, Bool, true, false, List, [], ◌∷◌, refl, ap, sym, ◌∙◌, Vec, vec_items, Less, Equal, Greater, Ordering, is_eq, nat_cmp}
use Rattle.std.specs.Prelude.{◌&&◌, ◌||◌, not}
use Rattle.std.specs.List.{list_any}
use Rattle.std.specs.Str.{bytes_eq}
use Rattle.std.specs.Ordering.{ordering_then, match_ordering}
use Rattle.std.specs.Cmp.Lexicographic.{slice_cmp}
use Rattle.std.specs.BTreeMap.{is_at}
use Rattle.std.specs.BTreeSet.{insert_key}
use Rattle.std.proofs.lemmas.Bool.{and_parts}
use Rattle.std.proofs.lemmas.Map.Text.{is_eq-slice_cmp}
use Rattle.std.proofs.lemmas.Slice.Eq.{bytes_eq-Decides}
use Rattle.nx_events.specs.SeenNames.{has_pair}

both_equal : (a b : Ordering) → is_eq (ordering_then a b) ≡ (is_eq a && is_eq b)
both_equal Less b = refl
both_equal Equal b = refl
both_equal Greater b = refl

last_one : (t : Bool) → (t || false) ≡ t
last_one true = refl
last_one false = refl

turned : (a b c : Bool) → (a || (b || c)) ≡ ((b || c) || a)
turned true true c = refl
turned true false true = refl
turned true false false = refl
turned false true c = refl
turned false false true = refl
turned false false false = refl

grouped : (a b c : Bool) → (a || (b || c)) ≡ ((a || b) || c)
grouped true b c = refl
grouped false b c = refl

again : (a b : Bool) → (a || b) ≡ ((a || b) || a)
again true b = refl
again false true = refl
again false false = refl

not_not : (t : Bool) → not (not t) ≡ t
not_not true = refl
not_not false = refl

module _ {Z : Type 0} where
  abbrev pub compare : Vec ℕ Z × Vec ℕ Z → Vec ℕ Z × Vec ℕ Z → Ordering
  compare x y = ordering_then (slice_cmp nat_cmp (vec_items x.0) (vec_items y.0)) (slice_cmp nat_cmp (vec_items x.1) (vec_items y.1))

  equal_is : (x y : Vec ℕ Z × Vec ℕ Z) → is_eq (compare x y) ≡ (bytes_eq (vec_items x.0) (vec_items y.0) && bytes_eq (vec_items x.1) (vec_items y.1))
  equal_is x y =
      both_equal (slice_cmp nat_cmp (vec_items x.0) (vec_items y.0)) (slice_cmp nat_cmp (vec_items x.1) (vec_items y.1))
      ∙ ap (λ (t : Bool). t && is_eq (slice_cmp nat_cmp (vec_items x.1) (vec_items y.1))) (is_eq-slice_cmp (vec_items x.0) (vec_items y.0))
      ∙ ap (λ (t : Bool). bytes_eq (vec_items x.0) (vec_items y.0) && t) (is_eq-slice_cmp (vec_items x.1) (vec_items y.1))

  -- the set has a key exactly where its parts are there
  pub contains_is : (keys : List (Vec ℕ Z × Vec ℕ Z)) (x : Vec ℕ Z × Vec ℕ Z) → list_any (is_at (compare x)) keys ≡ has_pair keys (vec_items x.0) (vec_items x.1)
  unfolding has_pair
  contains_is [] x = refl
  contains_is (y ∷ keys) x =
      ap (λ (t : Bool). t || list_any (is_at (compare x)) keys) (equal_is x y) ∙ ap (λ (t : Bool). (bytes_eq (vec_items x.0) (vec_items y.0) && bytes_eq (vec_items x.1) (vec_items y.1)) || t) (contains_is keys x)

  -- and one more is there behind an insertion
  pub inserted : (keys : List (Vec ℕ Z × Vec ℕ Z)) (x : Vec ℕ Z × Vec ℕ Z) (a b : List ℕ) →
      has_pair (insert_key compare keys x) a b ≡ (has_pair keys a b || (bytes_eq a (vec_items x.0) && bytes_eq b (vec_items x.1)))
  unfolding has_pair
  inserted [] x a b = last_one (bytes_eq a (vec_items x.0) && bytes_eq b (vec_items x.1))
  inserted (y ∷ keys) x a b = by_order (compare x y) refl (inserted keys x a b)
    where
      p : Vec ℕ Z × Vec ℕ Z → Bool
      p key = bytes_eq a (vec_items key.0) && bytes_eq b (vec_items key.1)

      same_parts : compare x y ≡ Equal → (bytes_eq a (vec_items x.0) && bytes_eq b (vec_items x.1)) ≡ (bytes_eq a (vec_items y.0) && bytes_eq b (vec_items y.1))
      same_parts e =
          let parts = and_parts (bytes_eq (vec_items x.0) (vec_items y.0)) (bytes_eq (vec_items x.1) (vec_items y.1)) (sym (equal_is x y) ∙ ap is_eq e) in
          ap (λ ys. bytes_eq a ys && bytes_eq b (vec_items x.1)) ((bytes_eq-Decides (vec_items x.0) (vec_items y.0)).0 parts.0)
          ∙ ap (λ ys. bytes_eq a (vec_items y.0) && bytes_eq b ys) ((bytes_eq-Decides (vec_items x.1) (vec_items y.1)).0 parts.1)

      by_order : (o : Ordering) → compare x y ≡ o →
          has_pair (insert_key compare keys x) a b ≡ (has_pair keys a b || (bytes_eq a (vec_items x.0) && bytes_eq b (vec_items x.1))) →
          has_pair (match_ordering o (x ∷ y ∷ keys) (y ∷ keys) (y ∷ insert_key compare keys x)) a b ≡ (has_pair (y ∷ keys) a b || (bytes_eq a (vec_items x.0) && bytes_eq b (vec_items x.1)))
      by_order Less e h = turned (bytes_eq a (vec_items x.0) && bytes_eq b (vec_items x.1)) (bytes_eq a (vec_items y.0) && bytes_eq b (vec_items y.1)) (has_pair keys a b)
      by_order Equal e h =
          again (bytes_eq a (vec_items y.0) && bytes_eq b (vec_items y.1)) (has_pair keys a b)
          ∙ ap (λ (t : Bool). has_pair (y ∷ keys) a b || t) (sym (same_parts e))
      by_order Greater e h =
          ap (λ (t : Bool). (bytes_eq a (vec_items y.0) && bytes_eq b (vec_items y.1)) || t) h
          ∙ grouped (bytes_eq a (vec_items y.0) && bytes_eq b (vec_items y.1)) (has_pair keys a b) (bytes_eq a (vec_items x.0) && bytes_eq b (vec_items x.1))

  pub came_before : (keys : List (Vec ℕ Z × Vec ℕ Z)) (x : Vec ℕ Z × Vec ℕ Z) (a b : List ℕ) (added : Bool) → vec_items x.0 ≡ a → vec_items x.1 ≡ b →
      added ≡ not (list_any (is_at (compare x)) keys) → not added ≡ has_pair keys a b
  came_before keys x a b added e f h =
      ap not h ∙ not_not (list_any (is_at (compare x)) keys) ∙ contains_is keys x ∙ ap (λ xs. has_pair keys xs (vec_items x.1)) e ∙ ap (λ xs. has_pair keys a xs) f

  pub names_behind : (keys new : List (Vec ℕ Z × Vec ℕ Z)) (x : Vec ℕ Z × Vec ℕ Z) (first second a b : List ℕ) → vec_items x.0 ≡ first → vec_items x.1 ≡ second →
      new ≡ insert_key compare keys x → has_pair new a b ≡ (has_pair keys a b || (bytes_eq a first && bytes_eq b second))
  names_behind keys new x first second a b e f h =
      ap (λ ks. has_pair ks a b) h ∙ inserted keys x a b
      ∙ ap (λ xs. has_pair keys a b || (bytes_eq a xs && bytes_eq b (vec_items x.1))) e ∙ ap (λ xs. has_pair keys a b || (bytes_eq a first && bytes_eq b xs)) f

  pub no_names : (keys : List (Vec ℕ Z × Vec ℕ Z)) (a b : List ℕ) → keys ≡ [] → has_pair keys a b ≡ false
  unfolding has_pair
  no_names keys a b e = ap (λ ks. has_pair ks a b) e
