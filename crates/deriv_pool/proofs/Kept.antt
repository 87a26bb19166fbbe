-- What is kept of nodes while nodes come behind, and what is found of it.
use Rattle.std.proofs.Common.{◌≡◌, ℕ, zero, suc, ◌<◌, List, [], ◌∷◌, ◌++◌, length, Option, None, Some, true, false, refl, sym, ap, subst, ◌∙◌, arith, get_or}
use Rattle.std.specs.Prelude.{IsTrue, ◌&&◌, Bool}
use Rattle.std.proofs.lemmas.Bool.{or_left, or_right}
use Rattle.std.proofs.lemmas.List.Kept.{IsStrictlySortedBy-filter}
use Rattle.std.specs.Coded.{Coded, coded_ℕ, coded_list, coded_option, Coded-set}
use Rattle.std.proofs.Math.Logic.{∥∥₁_elim, ∥∥₁_map}
use base.Stored.{Gv, gcons}
use Rattle.nx_base.specs.declared.name.Name.{Name}
use Rattle.nx_base.specs.Names.{same_name}
use Rattle.rng_core.proofs.Overlaps.{same_fields}
use Rattle.rng_core.specs.Patterns.{Pattern, Definition}
use Rattle.rng_kept.specs.Needed.{is_in, common, either_way, or_none}
use Rattle.rng_residual.proofs.SoleNames.{same_itself, same_name_is}
use Rattle.rng_residual.proofs.NameLists.{in_common, in_contained, contained_in}
use Rattle.rng_live.specs.Order.{name_order, in_order, SortsOnce}
use Rattle.rng_live.proofs.OrderedNames.{sorted_order, in_order_sorts, sorts_in_order}
use Rattle.deriv_nodes.specs.Numbers.{at, Later}
use Rattle.deriv_states.specs.Places.{Places, LaterPlaces}
use Rattle.deriv_pool.specs.declared.kept_names.NeededThere.{NeededThere}
use Rattle.deriv_pool.specs.Kept.{view_names, ordered, IsKept, AreKept}

-- ---- what is kept stays right

is_kept_later : (g : List Definition) (old new : List Pattern) (p : ℕ) (skip : Option Name) (names : Option (List Name)) → Later old new
    → IsKept g old p skip names → IsKept g new p skip names
is_kept_later g old new p skip names later is = record {
  node = omega (arith, later.grows, is.node);
  are = is.are ∙ sym (ap (λ q. ordered (view_names g skip q)) (later.stays p is.node));
}

kept_stay : (g : List Definition) (old new : List Pattern) (es : List NeededThere) → Later old new → AreKept g old es → AreKept g new es
kept_stay g old new [] later are = tt
kept_stay g old new (e ∷ es) later are = (is_kept_later g old new e.node e.skip e.names later are.0, kept_stay g old new es later are.1)

pub names_on : (g : List Definition) (old new : Places) (es : List NeededThere) → LaterPlaces old new
    → ∥ AreKept g old.patterns es ∥₁ → ∥ AreKept g new.patterns es ∥₁
names_on g old new es later right = ∥∥₁_map right (λ are. kept_stay g old.patterns new.patterns es later.patterns are)

pub kept_more : (g : List Definition) (nodes : List Pattern) (es : List NeededThere) (e : NeededThere) → AreKept g nodes es
    → IsKept g nodes e.node e.skip e.names → AreKept g nodes (es ++ e ∷ [])
kept_more g nodes [] e are is = (is, tt)
kept_more g nodes (x ∷ es) e are is = (are.0, kept_more g nodes es e are.1 is)

pub kept_at : (g : List Definition) (nodes : List Pattern) (es : List NeededThere) (i : ℕ) (d : NeededThere) → AreKept g nodes es → i < length es
    → IsKept g nodes (get_or es i d).node (get_or es i d).skip (get_or es i d).names
kept_at g nodes [] i d are here = absurd (omega (arith, here))
kept_at g nodes (x ∷ es) zero d are here = are.0
kept_at g nodes (x ∷ es) (suc i) d are here = kept_at g nodes es i d are.1 (omega (arith, here))

-- ---- and is found

pub named_alike : (n m : Name) → IsTrue (same_name n m) → Some n ≡ Some m
named_alike n m same = ap (λ k. Some k) (same_name_is n m same)

abbrev bytes : Coded (List ℕ)
bytes = coded_list coded_ℕ

abbrev name_code : Name → Gv
name_code n = gcons (bytes.code n.ns) (bytes.code n.local)

name_told : (n m : Name) → name_code n ≡ name_code m → n ≡ m
name_told n m e = same_fields n m (bytes.inj n.ns m.ns (cc)) (bytes.inj n.local m.local (cc))

coded_name : Coded Name
coded_name = record { code = name_code; inj = name_told }

-- an equation of lists of names has one proof at most
pub names_found : (g : List Definition) (nodes : List Pattern) (es : List NeededThere) (p : ℕ) (skip : Option Name) (names : Option (List Name))
    → ∥ AreKept g nodes es ∥₁ → (AreKept g nodes es → IsKept g nodes p skip names) → names ≡ ordered (view_names g skip (at nodes p))
names_found g nodes es p skip names right found =
    ∥∥₁_elim right (Coded-set (coded_option (coded_list coded_name)) _ _) (λ are. (found are).are)

-- ---- views that are one

all_common : (xs ys : List Name) → ((n : Name) → is_in n xs ≡ true → is_in n ys ≡ true) → common xs ys ≡ xs
all_common [] ys h = refl
all_common (n ∷ xs) ys h =
    let here : is_in n ys ≡ true = h n (or_left _ _ (same_itself n)) in
    rw here (ap (λ (ns : List Name). n ∷ ns) (all_common xs ys (λ m is. h m (or_right (same_name m n) _ is))))

pub either_itself : (names : Option (List Name)) → either_way names names ≡ names
either_itself None = refl
either_itself (Some names) = ap (λ ns. Some ns) (all_common names names (λ n h. h))

-- ---- in order

one_test : (a b : Bool) → (a ≡ true → b ≡ true) → (b ≡ true → a ≡ true) → a ≡ b
one_test true b f g = sym (f refl)
one_test false true f g = g refl
one_test false false f g = refl

in_ordered : (n : Name) (xs : List Name) → is_in n (in_order xs) ≡ is_in n xs
in_ordered n xs =
    let w = (in_order_sorts xs).same n in
    one_test _ _ (λ h. in_contained n xs (w.0 (contained_in n (in_order xs) h))) (λ h. in_contained n (in_order xs) (w.1 (contained_in n xs h)))

common_ordered : (xs ys : List Name) → common (in_order xs) (in_order ys) ≡ in_order (common xs ys)
common_ordered xs ys = sorts_in_order (common xs ys) both (record {
  sorted = IsStrictlySortedBy-filter name_order (λ n. is_in n (in_order ys)) (in_order xs) (sorted_order xs);
  same = λ n. (
    λ h. contained_in n (common xs ys) (sym (alike n) ∙ in_contained n both h),
    λ h. contained_in n both (alike n ∙ in_contained n (common xs ys) h),
  );
})
  where
    both : List Name
    both = common (in_order xs) (in_order ys)

    alike : (n : Name) → is_in n (common (in_order xs) (in_order ys)) ≡ is_in n (common xs ys)
    alike n =
        in_common n (in_order xs) (in_order ys)
        ∙ ap (λ b. b && is_in n (in_order ys)) (in_ordered n xs)
        ∙ ap (λ b. is_in n xs && b) (in_ordered n ys)
        ∙ sym (in_common n xs ys)

pub either_ordered : (a b : Option (List Name)) → either_way (ordered a) (ordered b) ≡ ordered (either_way a b)
either_ordered None b = refl
either_ordered (Some xs) None = refl
either_ordered (Some xs) (Some ys) = ap (λ (ns : List Name). Some ns) (common_ordered xs ys)

pub ordered_itself : (names : Option (List Name)) → ordered (either_way names names) ≡ ordered names
ordered_itself names = ap ordered (either_itself names)

pub ordered_is : (xs ys : List Name) → SortsOnce name_order xs ys → Some ys ≡ ordered (Some xs)
ordered_is xs ys are = ap (λ (ns : List Name). Some ns) (sorts_in_order xs ys are)

ordered_sorts : (x : Option (List Name)) → SortsOnce name_order (or_none x) (or_none (ordered x))
ordered_sorts None = in_order_sorts []
ordered_sorts (Some xs) = in_order_sorts xs

pub found_sorts : (x found : Option (List Name)) → found ≡ ordered x → SortsOnce name_order (or_none x) (or_none found)
found_sorts x found e = subst (λ o. SortsOnce name_order (or_none x) (or_none o)) (sym e) (ordered_sorts x)
