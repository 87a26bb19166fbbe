-- A set of names, as the tree keeps it.
use Rattle.std.proofs.Common.{◌≡◌, ℕ, Bool, true, false, List, [], ◌∷◌, refl, ap, sym, subst, ◌∙◌, Bor, Less, Equal, Greater, Ordering, is_eq, nat_cmp}
use Rattle.std.specs.Prelude.{◌&&◌, ◌||◌, Option, Some, IfSome}
use Rattle.std.specs.List.{list_any}
use Rattle.std.specs.Str.{bytes_eq}
use Rattle.std.specs.Ordering.{ordering_then, match_ordering}
use Rattle.std.specs.Cmp.Lexicographic.{slice_cmp}
use Rattle.std.specs.BTreeMap.{is_at}
use Rattle.std.specs.BTreeSet.{insert_key}
use Rattle.std.proofs.lemmas.Bool.{and_parts, or_left}
use Rattle.std.proofs.lemmas.Map.Text.{is_eq-slice_cmp}
use Rattle.std.proofs.lemmas.Slice.Eq.{bytes_eq-Decides}
use Rattle.nx_base.specs.declared.name.Name.{Name}
use Rattle.nx_base.specs.Names.{same_name}
use Rattle.rng_core.specs.declared.name_class.NameClass.{NameClass}
use Rattle.rng_core.specs.declared.sorted_class.SortedClass.{SortedClass}
use Rattle.rng_core.specs.declared.name_class.Bearer.{Bearer}
use Rattle.rng_core.specs.declared.name_class.Bearer.TheVariants.{Element, Attribute}
use Rattle.rng_core.specs.Names.{Class, covers, has_name}
use Rattle.rng_core.specs.Unmentioned.{borne, is_borne_name}
use Rattle.rng_core.proofs.Borne.{has_borne}
use Rattle.rng_core.specs.SortedClasses.{has_pair, some_covers, covers_sorted}

both_equal : (a b : Ordering) → is_eq (ordering_then a b) ≡ (is_eq a && is_eq b)
both_equal Less b = refl
both_equal Equal b = refl
both_equal Greater b = refl

last_one : (t : Bool) → (t || false) ≡ t
last_one true = refl
last_one false = refl

turned : (a b c : Bool) → (a || (b || c)) ≡ ((b || c) || a)
turned true true c = refl
turned true false true = refl
turned true false false = refl
turned false true c = refl
turned false false true = refl
turned false false false = refl

grouped : (a b c : Bool) → (a || (b || c)) ≡ ((a || b) || c)
grouped true b c = refl
grouped false b c = refl

again : (a b : Bool) → (a || b) ≡ ((a || b) || a)
again true b = refl
again false true = refl
again false false = refl

abbrev Key : Type 0
Key = Bor (List ℕ) × Bor (List ℕ)

abbrev compare : Key → Key → Ordering
compare x y = ordering_then (slice_cmp nat_cmp x.0.now y.0.now) (slice_cmp nat_cmp x.1.now y.1.now)

abbrev is_key : Name → Key → Bool
is_key name key = bytes_eq name.ns key.0.now && bytes_eq name.local key.1.now

equal_is : (x y : Key) → is_eq (compare x y) ≡ (bytes_eq x.0.now y.0.now && bytes_eq x.1.now y.1.now)
equal_is x y =
    both_equal (slice_cmp nat_cmp x.0.now y.0.now) (slice_cmp nat_cmp x.1.now y.1.now)
    ∙ ap (λ (t : Bool). t && is_eq (slice_cmp nat_cmp x.1.now y.1.now)) (is_eq-slice_cmp x.0.now y.0.now)
    ∙ ap (λ (t : Bool). bytes_eq x.0.now y.0.now && t) (is_eq-slice_cmp x.1.now y.1.now)

-- the set has a key exactly where its name is there
pub contains_is : (keys : List Key) (x : Key) (name : Name) → x.0.now ≡ name.ns → x.1.now ≡ name.local → list_any (is_at (compare x)) keys ≡ has_pair keys name
unfolding has_pair
contains_is [] x name ns local = refl
contains_is (y ∷ keys) x name ns local =
    ap (λ (t : Bool). t || list_any (is_at (compare x)) keys) (equal_is x y ∙ ap (λ t. bytes_eq t y.0.now && bytes_eq x.1.now y.1.now) ns ∙ ap (λ t. bytes_eq name.ns y.0.now && bytes_eq t y.1.now) local)
    ∙ ap (λ (t : Bool). is_key name y || t) (contains_is keys x name ns local)

-- and one more is there behind an insertion
inserted : (keys : List Key) (x : Key) (name : Name) → has_pair (insert_key compare keys x) name ≡ (has_pair keys name || is_key name x)
unfolding has_pair
inserted [] x name = last_one (is_key name x)
inserted (y ∷ keys) x name = by_order (compare x y) refl (inserted keys x name)
  where
    same_parts : compare x y ≡ Equal → is_key name x ≡ is_key name y
    same_parts e =
        let parts = and_parts (bytes_eq x.0.now y.0.now) (bytes_eq x.1.now y.1.now) (sym (equal_is x y) ∙ ap is_eq e) in
        ap (λ t. bytes_eq name.ns t && bytes_eq name.local x.1.now) ((bytes_eq-Decides x.0.now y.0.now).0 parts.0)
        ∙ ap (λ t. bytes_eq name.ns y.0.now && bytes_eq name.local t) ((bytes_eq-Decides x.1.now y.1.now).0 parts.1)

    by_order : (o : Ordering) → compare x y ≡ o →
        has_pair (insert_key compare keys x) name ≡ (has_pair keys name || is_key name x) →
        has_pair (match_ordering o (x ∷ y ∷ keys) (y ∷ keys) (y ∷ insert_key compare keys x)) name ≡ (has_pair (y ∷ keys) name || is_key name x)
    by_order Less e h = turned (is_key name x) (is_key name y) (has_pair keys name)
    by_order Equal e h = again (is_key name y) (has_pair keys name) ∙ ap (λ (t : Bool). has_pair (y ∷ keys) name || t) (sym (same_parts e))
    by_order Greater e h = ap (λ (t : Bool). is_key name y || t) h ∙ grouped (is_key name y) (has_pair keys name) (is_key name x)

pub behind_insertion : (keys new : List Key) (x : Key) (name one : Name) → x.0.now ≡ one.ns → x.1.now ≡ one.local →
    new ≡ insert_key compare keys x → has_pair new name ≡ (has_pair keys name || same_name name one)
behind_insertion keys new x name one ns local is =
    ap (λ ks. has_pair ks name) is ∙ inserted keys x name
    ∙ ap (λ t. has_pair keys name || (bytes_eq name.ns t && bytes_eq name.local x.1.now)) ns
    ∙ ap (λ t. has_pair keys name || (bytes_eq name.ns one.ns && bytes_eq name.local t)) local

last_turned : (a b c : Bool) → ((a || b) || c) ≡ ((a || c) || b)
last_turned true b c = refl
last_turned false true true = refl
last_turned false true false = refl
last_turned false false true = refl
last_turned false false false = refl

-- what a sorted class covers with no names, and with one more
pub nothing_sorted : (keys : List Key) (others : List (Bor NameClass)) (name : Name) → keys ≡ [] → others ≡ [] → (has_pair keys name || some_covers others name) ≡ false
unfolding has_pair
nothing_sorted keys others name no_key no_other = rw (no_key, no_other) refl

pub one_sorted : (keys new : List Key) (others : List (Bor NameClass)) (x : Key) (name one : Name) → x.0.now ≡ one.ns → x.1.now ≡ one.local →
    new ≡ insert_key compare keys x → (has_pair new name || some_covers others name) ≡ ((has_pair keys name || some_covers others name) || same_name name one)
one_sorted keys new others x name one ns local is =
    ap (λ b. b || some_covers others name) (behind_insertion keys new x name one ns local is)
    ∙ last_turned (has_pair keys name) (same_name name one) (some_covers others name)

-- a name is found among the keys, or by the other classes
pub told_by_keys : (keys : List Key) (others : List (Bor NameClass)) (x : Key) (name : Name) (found : Bool) → x.0.now ≡ name.ns → x.1.now ≡ name.local →
    found ≡ list_any (is_at (compare x)) keys → found ≡ true → found ≡ (has_pair keys name || some_covers others name)
told_by_keys keys others x name found ns local is found_there =
    found_there ∙ sym (or_left _ _ (sym (contains_is keys x name ns local) ∙ sym is ∙ found_there))

pub told_by_others : (keys : List Key) (others : List (Bor NameClass)) (x : Key) (name : Name) (found rest : Bool) → x.0.now ≡ name.ns → x.1.now ≡ name.local →
    found ≡ list_any (is_at (compare x)) keys → found ≡ false → rest ≡ some_covers others name → rest ≡ (has_pair keys name || some_covers others name)
told_by_others keys others x name found rest ns local is not_there told =
    told ∙ sym (ap (λ b. b || some_covers others name) (sym (contains_is keys x name ns local) ∙ sym is ∙ not_there))

borne_name : (bearer : Bearer) (class : Class) (name : Name) → (is_borne_name bearer name && covers class name) ≡ has_name (borne bearer class) name
unfolding borne
borne_name Element class name = refl
borne_name Attribute class name = sym (has_borne class name)

-- a class that is sorted has the names that it has
pub sorted_has : (bearer : Bearer) (class : Class) (sorted : Option (Bor SortedClass)) (s : Bor SortedClass) (name : Name) (result : Bool) → sorted ≡ Some s →
    IfSome sorted (λ s. (n : Name) → covers_sorted s.now n ≡ covers class n) → result ≡ (is_borne_name bearer name && covers_sorted s.now name) →
    result ≡ has_name (borne bearer class) name
sorted_has bearer class sorted s name result is tells told =
    let P : Option (Bor SortedClass) → Type 0 = λ o. IfSome o (λ s. (n : Name) → covers_sorted s.now n ≡ covers class n) in
    told ∙ ap (λ b. is_borne_name bearer name && b) (subst P is tells name) ∙ borne_name bearer class name
