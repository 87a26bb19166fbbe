-- Names in order and each once: one list has them so, and it is the same whatever the order was.
use Rattle.std.proofs.Common.{◌≡◌, zero, suc, List, [], ◌∷◌, ◌++◌, refl, sym, ap, subst, ◌∙◌, arith, ◌⊎◌, inl, inr}
use Rattle.std.specs.Prelude.{Contains}
use Rattle.std.specs.List.{AllByRecursion}
use Rattle.std.specs.List.Sorted.{IsStrictlySortedBy}
use Rattle.std.specs.BTreeSet.{insert_key}
use Rattle.std.specs.Cmp.{IsTotalOrder, then_total, on_total, tied_itself}
use Rattle.std.specs.Cmp.Lexicographic.{nat_list_cmp_total}
use Rattle.std.specs.FinMap.{slice_cmp-IsAntisymmetric, nat_cmp-IsAntisymmetric}
use Rattle.std.specs.Ordering.{is_eq, is_lt, match_ordering, ordering_reverse, ordering_then}
use Rattle.std.specs.declared.cmp.Ordering.{Ordering}
use Rattle.std.specs.declared.cmp.Ordering.TheVariants.{Less, Equal, Greater}
use Rattle.std.proofs.lemmas.Bool.{true≢false, false≢true}
use Rattle.nx_base.specs.declared.name.Name.{Name}
use Rattle.rng_core.proofs.Overlaps.{same_fields}
use Rattle.rng_kept.specs.Events.{IsAmong, first, later}
use Rattle.rng_live.specs.Order.{name_order, text_order, in_order, SortsOnce}

-- ---- names among others

pub to_among : (xs : List Name) (n : Name) → Contains xs n → IsAmong n xs
to_among [] n (k, lt, e) = absurd (omega arith)
to_among (x ∷ xs) n (zero, lt, e) = first e
to_among (x ∷ xs) n (suc k, lt, e) = later (to_among xs n (k, omega arith, e))

pub from_among : (xs : List Name) (n : Name) → IsAmong n xs → Contains xs n
from_among [] n i = elim i [ ]
from_among (x ∷ xs) n (first e) = (zero, omega arith, e)
from_among (x ∷ xs) n (later i) = let c = from_among xs n i in (suc c.0, omega (arith, c.1), c.2)

none_among : (n : Name) → IsAmong n [] → ⊥
none_among n i = elim i [ ]

pub among_front : (xs ys : List Name) (n : Name) → IsAmong n xs → IsAmong n (xs ++ ys)
among_front [] ys n i = elim i [ ]
among_front (x ∷ xs) ys n (first e) = first e
among_front (x ∷ xs) ys n (later i) = later (among_front xs ys n i)

pub among_back : (xs ys : List Name) (n : Name) → IsAmong n ys → IsAmong n (xs ++ ys)
among_back [] ys n i = i
among_back (x ∷ xs) ys n i = later (among_back xs ys n i)

all_among : (P : Name → Type 0) (xs : List Name) (n : Name) → AllByRecursion P xs → IsAmong n xs → P n
all_among P [] n h i = elim i [ ]
all_among P (x ∷ xs) n h (first e) = subst P e h.0
all_among P (x ∷ xs) n h (later i) = all_among P xs n h.1 i

-- ---- in order

pub names_total : IsTotalOrder name_order
names_total = then_total (on_total (λ (n : Name). n.ns) nat_list_cmp_total) (on_total (λ (n : Name). n.local) nat_list_cmp_total)

both_equal : (r s : Ordering) → ordering_then r s ≡ Equal → (r ≡ Equal) × (s ≡ Equal)
both_equal Less s e = absurd (true≢false (sym (ap is_eq e)))
both_equal Equal s e = (refl, e)
both_equal Greater s e = absurd (true≢false (sym (ap is_eq e)))

pub same_in_order : (n m : Name) → name_order n m ≡ Equal → n ≡ m
same_in_order n m e =
    let w = both_equal (text_order n.ns m.ns) (text_order n.local m.local) e in
    same_fields n m (slice_cmp-IsAntisymmetric nat_cmp-IsAntisymmetric n.ns m.ns w.0) (slice_cmp-IsAntisymmetric nat_cmp-IsAntisymmetric n.local m.local w.1)

by_order : {P : Type 0} (r : Ordering) → (r ≡ Less → P) → (r ≡ Equal → P) → (r ≡ Greater → P) → P
by_order Less a b c = a refl
by_order Equal a b c = b refl
by_order Greater a b c = c refl

not_less : (n : Name) → name_order n n ≡ Less → ⊥
not_less n e = false≢true (sym (ap is_lt (tied_itself names_total n)) ∙ ap is_lt e)

turned_greater : (n m : Name) → name_order n m ≡ Greater → name_order m n ≡ Less
turned_greater n m e = names_total.antisymm m n ∙ ap ordering_reverse e

abbrev Below : Name → List Name → Type 0
Below n ns = AllByRecursion (λ m. name_order n m ≡ Less) ns

put_among : (r : Ordering) (n m k : Name) (ns rest : List Name) → (r ≡ Equal → k ≡ m) → IsAmong n (match_ordering r (k ∷ m ∷ ns) (m ∷ ns) (m ∷ rest)) → (IsAmong n rest → (k ≡ n) ⊎ IsAmong n ns) → (k ≡ n) ⊎ IsAmong n (m ∷ ns)
put_among Less n m k ns rest s (first e) f = inl e
put_among Less n m k ns rest s (later i) f = inr i
put_among Equal n m k ns rest s i f = inr i
put_among Greater n m k ns rest s (first e) f = inr (first e)
put_among Greater n m k ns rest s (later i) f = elim (f i) [ inl e ↦ inl e | inr j ↦ inr (later j) ]

from_put : (ns : List Name) (k n : Name) → IsAmong n (insert_key name_order ns k) → (k ≡ n) ⊎ IsAmong n ns
from_put [] k n (first e) = inl e
from_put [] k n (later i) = inr i
from_put (m ∷ ns) k n i = put_among (name_order k m) n m k ns (insert_key name_order ns k) (same_in_order k m) i (from_put ns k n)

put_it : (r : Ordering) (m k : Name) (ns rest : List Name) → (r ≡ Equal → k ≡ m) → IsAmong k rest → IsAmong k (match_ordering r (k ∷ m ∷ ns) (m ∷ ns) (m ∷ rest))
put_it Less m k ns rest s i = first refl
put_it Equal m k ns rest s i = first (sym (s refl))
put_it Greater m k ns rest s i = later i

put_here : (ns : List Name) (k : Name) → IsAmong k (insert_key name_order ns k)
put_here [] k = first refl
put_here (m ∷ ns) k = put_it (name_order k m) m k ns (insert_key name_order ns k) (same_in_order k m) (put_here ns k)

put_other : (r : Ordering) (n m k : Name) (ns rest : List Name) → IsAmong n (m ∷ ns) → (IsAmong n ns → IsAmong n rest) → IsAmong n (match_ordering r (k ∷ m ∷ ns) (m ∷ ns) (m ∷ rest))
put_other Less n m k ns rest i f = later i
put_other Equal n m k ns rest i f = i
put_other Greater n m k ns rest (first e) f = first e
put_other Greater n m k ns rest (later i) f = later (f i)

put_on : (ns : List Name) (k n : Name) → IsAmong n ns → IsAmong n (insert_key name_order ns k)
put_on [] k n i = elim i [ ]
put_on (m ∷ ns) k n i = put_other (name_order k m) n m k ns (insert_key name_order ns k) i (put_on ns k n)

pub from_order : (ns : List Name) (n : Name) → IsAmong n (in_order ns) → IsAmong n ns
from_order [] n i = elim i [ ]
from_order (m ∷ ns) n i = elim (from_put (in_order ns) m n i) [ inl e ↦ first e | inr j ↦ later (from_order ns n j) ]

pub to_order : (ns : List Name) (n : Name) → IsAmong n ns → IsAmong n (in_order ns)
to_order [] n i = elim i [ ]
to_order (m ∷ ns) n (first e) = subst (λ k. IsAmong k (insert_key name_order (in_order ns) m)) e (put_here (in_order ns) m)
to_order (m ∷ ns) n (later i) = put_on (in_order ns) m n (to_order ns n i)

below_on : (k m : Name) (ns : List Name) → name_order k m ≡ Less → Below m ns → Below k ns
below_on k m [] e h = tt
below_on k m (n ∷ ns) e h = (names_total.trans k m n e h.0, below_on k m ns e h.1)

below_put : (m k : Name) (ns : List Name) → name_order m k ≡ Less → Below m ns → Below m (insert_key name_order ns k)
below_put m k [] e h = (e, tt)
below_put m k (n ∷ ns) e h = step (name_order k n) (below_put m k ns e h.1)
  where
    step : (r : Ordering) → Below m (insert_key name_order ns k) → Below m (match_ordering r (k ∷ n ∷ ns) (n ∷ ns) (n ∷ insert_key name_order ns k))
    step Less i = (e, h)
    step Equal i = h
    step Greater i = (h.0, i)

sorted_by : (r : Ordering) (k m : Name) (ns rest : List Name) → name_order k m ≡ r → IsStrictlySortedBy name_order (m ∷ ns) → IsStrictlySortedBy name_order rest → (name_order m k ≡ Less → Below m rest) → IsStrictlySortedBy name_order (match_ordering r (k ∷ m ∷ ns) (m ∷ ns) (m ∷ rest))
unfolding IsStrictlySortedBy
sorted_by Less k m ns rest e h i f = ((e, below_on k m ns e h.0), h)
sorted_by Equal k m ns rest e h i f = h
sorted_by Greater k m ns rest e h i f = (f (turned_greater k m e), i)

sorted_put : (ns : List Name) (k : Name) → IsStrictlySortedBy name_order ns → IsStrictlySortedBy name_order (insert_key name_order ns k)
unfolding IsStrictlySortedBy
sorted_put [] k h = (tt, tt)
sorted_put (m ∷ ns) k h = sorted_by (name_order k m) k m ns (insert_key name_order ns k) refl h (sorted_put ns k h.1) (λ e. below_put m k ns e h.0)

pub sorted_order : (ns : List Name) → IsStrictlySortedBy name_order (in_order ns)
unfolding IsStrictlySortedBy
sorted_order [] = tt
sorted_order (m ∷ ns) = sorted_put (in_order ns) m (sorted_order ns)

-- ---- lists in order with the same names are one

abbrev pub Alike : List Name → List Name → Type 0
Alike ns ms = (n : Name) → IsAmong n ns → IsAmong n ms

rest_of : (k : Name) (ns ms : List Name) → Below k ns → Alike (k ∷ ns) (k ∷ ms) → Alike ns ms
rest_of k ns ms h f n i = by (f n (later i))
  where
    by : IsAmong n (k ∷ ms) → IsAmong n ms
    by (first e) = absurd (not_less k (subst (λ x. name_order k x ≡ Less) (sym e) (all_among (λ m. name_order k m ≡ Less) ns n h i)))
    by (later j) = j

-- a name that is among those behind another isn't less than it
behind : (k m : Name) (ms : List Name) → Below m ms → IsAmong k (m ∷ ms) → name_order k m ≡ Less → ⊥
behind k m ms h (first e) l = not_less k (subst (λ x. name_order k x ≡ Less) e l)
behind k m ms h (later i) l = not_less k (names_total.trans k m k l (all_among (λ n. name_order m n ≡ Less) ms k h i))

pub one_list : (ns ms : List Name) → IsStrictlySortedBy name_order ns → IsStrictlySortedBy name_order ms → Alike ns ms → Alike ms ns → ns ≡ ms
unfolding IsStrictlySortedBy
one_list [] [] h k f g = refl
one_list [] (m ∷ ms) h k f g = absurd (none_among m (g m (first refl)))
one_list (n ∷ ns) [] h k f g = absurd (none_among n (f n (first refl)))
one_list (n ∷ ns) (m ∷ ms) h k f g =
    let e : n ≡ m = by_order (name_order n m) (λ l. absurd (behind n m ms k.0 (f n (first refl)) l)) (same_in_order n m) (λ l. absurd (behind m n ns h.0 (g m (first refl)) (turned_greater n m l))) in
    let f' : Alike (n ∷ ns) (n ∷ ms) = subst (λ x. Alike (n ∷ ns) (x ∷ ms)) (sym e) f in
    let g' : Alike (n ∷ ms) (n ∷ ns) = subst (λ x. Alike (x ∷ ms) (n ∷ ns)) (sym e) g in
    let b : Below n ms = subst (λ x. Below x ms) (sym e) k.0 in
    let t : ns ≡ ms = one_list ns ms h.1 k.1 (rest_of n ns ms h.0 f') (rest_of n ms ns b g') in
    ap (λ x. x ∷ ns) e ∙ ap (λ xs. m ∷ xs) t

-- ---- the list in order

pub in_order_sorts : (ns : List Name) → SortsOnce name_order ns (in_order ns)
in_order_sorts ns = record {
  sorted = sorted_order ns;
  same = λ n. (
    λ h. from_among ns n (from_order ns n (to_among (in_order ns) n h)),
    λ h. from_among (in_order ns) n (to_order ns n (to_among ns n h)),
  );
}

pub sorts_in_order : (ns ms : List Name) → SortsOnce name_order ns ms → ms ≡ in_order ns
sorts_in_order ns ms are =
    one_list ms (in_order ns) are.sorted (sorted_order ns)
    (λ n i. to_order ns n (to_among ns n ((are.same n).0 (from_among ms n i))))
    (λ n i. to_among ms n ((are.same n).1 (from_among ns n (from_order ns n i))))
