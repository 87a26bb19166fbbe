-- Names that every way requires are those of the first start tag's content that each way needs.
use Rattle.std.specs.Prelude.{◌≡◌, ◌⊎◌, List, [], ◌∷◌, Bool, true, false, ◌&&◌, IsTrue, Contains, cond}
use Rattle.std.specs.List.{All, filter}
use Rattle.std.proofs.Common.{refl, sym, ap, ◌∙◌, subst, ⊎_elim, arith}
use Rattle.std.proofs.lemmas.Bool.{and_parts, and_from, false≢true}
use Rattle.std.proofs.lemmas.List.Elements.{All-filter, All-contains, All-contains_itself, filter_passes, Contains-append_left, Contains-append_right, Contains-append_cases, Contains-push, Contains-push_cases}
use Rattle.nx_base.specs.declared.name.Name.{Name}
use Rattle.rng_core.specs.Patterns.{Pattern}
use Rattle.rng_kept.specs.Residuals.{Outer, in_tag, Residual, is_in_tag}
use Rattle.rng_kept.specs.Required.{needs, way_needs, is_required}
use Rattle.rng_live.specs.Order.{name_order, SortsOnce}
use Rattle.rng_live.specs.Calls.{AreRequired}
use Rattle.rng_live.specs.Possible.{ArePossible}

-- of a first start tag
pub possible_of : (x : Residual) (p : Pattern) (o : Outer) (rest : Residual) (names : List Name) → is_in_tag (in_tag p o ∷ rest) ≡ is_in_tag x →
    ((n : Name) → is_required n (in_tag p o ∷ rest) ≡ is_required n x) → ((n : Name) → IsTrue (needs n p) → Contains names n) → ArePossible x names
possible_of x p o rest names tag same among = record {
  whole = λ n h. among n (and_parts (needs n p) (is_required n rest) (same n ∙ (and_parts (is_in_tag x) (is_required n x) h).1)).0;
  tag = λ n h. sym tag;
}

module _ {X : Type 0} (test : X → Bool) where
  later_kept : (c : Bool) (x n : X) (ys : List X) → Contains ys n → Contains (cond c (x ∷ ys) ys) n
  later_kept true x n ys h = Contains-append_right (x ∷ []) ys n h
  later_kept false x n ys h = h

  first_kept : (c : Bool) (x n : X) (ys : List X) → c ≡ true → x ≡ n → Contains (cond c (x ∷ ys) ys) n
  first_kept true x n ys is same = subst (λ y. Contains (x ∷ ys) y) same (Contains-append_left (x ∷ []) ys x (Contains-push [] x))
  first_kept false x n ys is same = absurd (false≢true is)

  filtered : (xs : List X) (n : X) → Contains xs n → test n ≡ true → Contains (filter test xs) n
  filtered [] n h is = h
  filtered (x ∷ xs) n h is = ⊎_elim
      (λ one. ⊎_elim (λ none. absurd (let inside = none.1 in omega arith))
      (λ same. first_kept (test x) x n (filter test xs) (subst (λ y. test y ≡ true) (sym same) is) same) (Contains-push_cases [] x n one))
      (λ later. later_kept (test x) x n (filter test xs) (filtered xs n later is))
      (Contains-append_cases (x ∷ []) xs n h)

  unfiltered : (xs : List X) (n : X) → Contains (filter test xs) n → Contains xs n × (test n ≡ true)
  unfiltered xs n h = (
    All-contains (Contains xs) (filter test xs) n (All-filter test (Contains xs) xs (All-contains_itself xs)) h,
    All-contains (λ y. test y ≡ true) (filter test xs) n (filter_passes test xs) h,
  )

-- those of the possible names that each way needs, in order
pub required_exactly : (x : Residual) (possible found sorted : List Name) → ArePossible x possible →
    found ≡ filter (λ n. is_required n x) possible → SortsOnce name_order found sorted → AreRequired x sorted
required_exactly x possible found sorted all is sorts = record {
  sorted = sorts.sorted;
  exact = λ n. (
    λ h.
        let parts = unfiltered (λ m. is_required m x) possible n (subst (λ (ns : List Name). Contains ns n) is ((sorts.same n).0 h)) in
        and_from (is_in_tag x) (is_required n x) (all.tag n parts.0) parts.1,
    λ h.
        let parts = and_parts (is_in_tag x) (is_required n x) h in
        (sorts.same n).1 (subst (λ (ns : List Name). Contains ns n) (sym is) (filtered (λ m. is_required m x) possible n (all.whole n h) parts.1)),
  );
}
