-- Sorted, and each once.
use Rattle.std.specs.Prelude.{◌≡◌, ◌≤◌, ℕ, List, [], length, take, Contains}
use Rattle.std.specs.List.{dedup, fold}
use Rattle.std.specs.List.Sorted.{IsPermutation, IsSorted, IsStrictlySortedBy}
use Rattle.std.specs.Cmp.{IsTotalOrder}
use Rattle.std.specs.Ordering.{eq_by_cmp}
use Rattle.std.specs.declared.cmp.Ordering.{Ordering}
use Rattle.std.proofs.Common.{refl, sym, ap, ◌∙◌, subst}
use Rattle.std.proofs.lemmas.List.{take_all}
use Rattle.std.proofs.lemmas.Cmp.{eq_by_cmp_equiv, then_total, on_total, nat_list_cmp_total}
use Rattle.std.proofs.lemmas.List.Kept.{Contains-dedup, Contains-from_dedup, IsStrictlySortedBy-dedup}
use Rattle.std.proofs.lemmas.List.Sorted.{Contains-permutation, IsPermutation-sym}
use Rattle.std.proofs.lemmas.Map.Lookups.{CmpEqualImpliesEq, exact_bytes, exact_pairs}
use Rattle.std.proofs.lemmas.Map.Views.{tells_apart}
use Rattle.nx_base.specs.declared.name.Name.{Name}
use Rattle.rng_live.specs.Order.{text_order, name_order, SortsOnce}

pub texts_total : IsTotalOrder text_order
texts_total = nat_list_cmp_total

pub texts_exact : CmpEqualImpliesEq text_order
texts_exact = exact_bytes

pub names_total : IsTotalOrder name_order
names_total = then_total (on_total (λ (n : Name). n.ns) nat_list_cmp_total) (on_total (λ (n : Name). n.local) nat_list_cmp_total)

name_of : List ℕ × List ℕ → Name
name_of p = record { ns = p.0; local = p.1 }

pub names_exact : CmpEqualImpliesEq name_order
unfolding name_of
names_exact x y same = ap name_of (exact_pairs text_order text_order exact_bytes exact_bytes (x.ns, x.local) (y.ns, y.local) same)

-- what a sort and then a `dedup` leave
pub sorts_once : {X : Type 0} {R : X → X → Ordering} → IsTotalOrder R → CmpEqualImpliesEq R → (xs ys zs : List X) → IsPermutation xs ys → IsSorted R ys → zs ≡ dedup (eq_by_cmp R) ys → SortsOnce R xs zs
sorts_once {X} {R} total exact xs ys zs moved sorted is = record {
  sorted = subst (IsStrictlySortedBy R) (sym is) (IsStrictlySortedBy-dedup total {E = eq_by_cmp R} (λ x y. refl) ys sorted);
  same = λ x. (
    λ h. Contains-permutation ys xs x (IsPermutation-sym xs ys moved) (Contains-from_dedup (eq_by_cmp R) ys x (subst (λ (vs : List X). Contains vs x) is h)),
    λ h. subst (λ (vs : List X). Contains vs x) (sym is) (Contains-dedup (eq_by_cmp_equiv total) (tells_apart exact) ys x (Contains-permutation xs ys x moved h)),
  );
}

-- a walk over a list came to its end, and what it found was sorted
pub sorted_whole : {A X : Type 0} {R : X → X → Ordering} (f : List X → A → List X) (xs : List A) (i : ℕ) (found sorted made : List X) → found ≡ fold f [] (take i xs) → length xs ≤ i → SortsOnce R found sorted → made ≡ sorted → SortsOnce R (fold f [] xs) made
sorted_whole {A} {X} {R} f xs i found sorted made is long sorts same =
    subst (λ (vs : List X). SortsOnce R vs made) (is ∙ ap (fold f []) (take_all i xs long)) (subst (λ (vs : List X). SortsOnce R found vs) (sym same) sorts)
