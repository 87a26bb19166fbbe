-- The classes of both sides of a pattern, one behind the other.
use Rattle.std.specs.Prelude.{◌≡◌, ℕ, ◌-◌, Bool, true, false, ◌||◌, List, [], ◌∷◌, ◌++◌, length, map, take, drop, Option, Some, None, slice_get, Result, Ok, Err, IfOk, IsTrue, ◌↔◌}
use Rattle.std.specs.List.{list_any, slice_range}
use Rattle.std.proofs.Common.{refl, sym, ap, ◌∙◌, append_assoc, append-nil, arith, length-append, length-drop}
use Rattle.std.proofs.Math.Seq.{take-append_seam, drop-append_seam, take-length}
use Rattle.std.proofs.lemmas.List.{take-map, drop-map, map-append}
use Rattle.std.specs.Option.{option_map}
use Rattle.std.proofs.lemmas.Option.{slice_get-map}
use Rattle.rng_core.specs.declared.grammar.Def.{Def}
use Rattle.rng_core.specs.Meaning.{class_of, definition_of}
use Rattle.rng_core.specs.Patterns.{Definition}
use Rattle.rng_core.specs.Names.{Class}
use Rattle.rng_core.specs.declared.name_class.Bearer.{Bearer}
use Rattle.rng_core.specs.declared.name_class.Bearer.TheVariants.{Attribute}
use Rattle.rng_core.specs.Unmentioned.{OverlapAs, borne, overlaps}
use Rattle.rng_core.proofs.Borne.{overlap_found, overlap_there}
use Rattle.rng_restrict.specs.Finding.{share_name, any_share, sides_share, class_at}

-- two tests are alike where each follows from the other
pub alike : (a b : Bool) → (a ≡ true → b ≡ true) → (b ≡ true → a ≡ true) → a ≡ b
alike true b to from = sym (to refl)
alike false true to from = from refl
alike false false to from = refl

pub share_name_exactly : (bearer : Bearer) (c d : Class) (found : Bool) → (IsTrue found ↔ OverlapAs bearer c d) → found ≡ share_name bearer c d
unfolding share_name
share_name_exactly bearer c d found is = alike found (overlaps (borne bearer c) d) (λ t. overlap_found bearer c d (is.0 t)) (λ t. is.1 (overlap_there bearer c d t))

pub list_any-map : {X Y : Type 0} (test : Y → Bool) (f : X → Y) (xs : List X) → list_any test (map f xs) ≡ list_any (λ x. test (f x)) xs
list_any-map test f [] = refl
list_any-map test f (x ∷ xs) = ap (λ (b : Bool). test (f x) || b) (list_any-map test f xs)

pub both_any : {X : Type 0} (p q : X → Bool) (xs : List X) → ((x : X) → p x ≡ q x) → list_any p xs ≡ list_any q xs
both_any p q [] same = refl
both_any p q (x ∷ xs) same = ap (λ (b : Bool). b || list_any p xs) (same x) ∙ ap (λ (b : Bool). q x || b) (both_any p q xs same)

-- the classes that are compared are those of the values
pub any_share-map : {X : Type 0} (bearer : Bearer) (class : X → Class) (xs ys : List X) →
    list_any (λ x. list_any (λ y. share_name bearer (class x) (class y)) ys) xs ≡ any_share bearer (map class xs) (map class ys)
unfolding any_share
any_share-map bearer class xs ys =
    both_any (λ x. list_any (λ y. share_name bearer (class x) (class y)) ys) (λ x. list_any (λ d. share_name bearer (class x) d) (map class ys)) xs
    (λ x. sym (list_any-map (λ d. share_name bearer (class x) d) class ys))
    ∙ sym (list_any-map (λ c. list_any (λ d. share_name bearer c d) (map class ys)) class xs)

all_behind : {X : Type 0} (n : ℕ) (items : List X) → take (length items - n) (drop n items) ≡ drop n items
all_behind n items = ap (λ (k : ℕ). take k (drop n items)) (sym (length-drop n items)) ∙ take-length (drop n items)

-- so are those of a list from a place to another, and those behind
pub sides_exactly : {X : Type 0} (class : X → Class) (items part rest : List X) (before between : ℕ) (found : Bool) → part ≡ slice_range items before between → rest ≡ take (length items - between) (drop between items) →
    found ≡ list_any (λ x. list_any (λ y. share_name Attribute (class x) (class y)) rest) part → found ≡ sides_share before between (map class items)
unfolding sides_share
sides_exactly {X = X} class items part rest before between found one other is =
    is ∙ any_share-map Attribute class part rest
    ∙ ap (λ (xs : List X). any_share Attribute (map class xs) (map class rest)) one
    ∙ ap (λ (ys : List X). any_share Attribute (map class (slice_range items before between)) (map class ys)) (other ∙ all_behind between items)
    ∙ ap (λ (cs : List Class). any_share Attribute cs (map class (drop between items))) (sym (take-map class (between - before) (drop before items)) ∙ ap (take (between - before)) (sym (drop-map class before items)))
    ∙ ap (λ (cs : List Class). any_share Attribute (slice_range (map class items) before between) cs) (sym (drop-map class between items))

-- the classes of a list, those behind it, and those behind both
before_others : (old a b : List Class) → slice_range ((old ++ a) ++ b) (length old) (length (old ++ a)) ≡ a
before_others old a b =
    let n : length (old ++ a) - length old ≡ length a = omega (arith, length-append old a) in
    ap (λ (k : ℕ). take k (drop (length old) ((old ++ a) ++ b))) n
    ∙ ap (λ (cs : List Class). take (length a) (drop (length old) cs)) (append_assoc old a b)
    ∙ ap (take (length a)) (drop-append_seam old (a ++ b))
    ∙ take-append_seam a b

behind_both : (old a b : List Class) → drop (length (old ++ a)) ((old ++ a) ++ b) ≡ b
behind_both old a b = drop-append_seam (old ++ a) b

sides_of_three : (old a b : List Class) → sides_share (length old) (length (old ++ a)) ((old ++ a) ++ b) ≡ any_share Attribute a b
unfolding sides_share
sides_of_three old a b = ap (λ (cs : List Class). any_share Attribute cs (drop (length (old ++ a)) ((old ++ a) ++ b))) (before_others old a b) ∙ ap (λ (cs : List Class). any_share Attribute a cs) (behind_both old a b)

-- the classes of one side were added, and then those of the other
pub both_sides : (old middle all a b : List Class) (before between : ℕ) (shared first second fault one other : Bool) → middle ≡ old ++ a → all ≡ middle ++ b → before ≡ length old → between ≡ length middle → shared ≡ sides_share before between all → first ≡ one → second ≡ other → fault ≡ (shared || (first || second)) → (fault ≡ (any_share Attribute a b || (one || other))) × (all ≡ old ++ (a ++ b))
both_sides old middle all a b before between shared first second fault one other is_middle is_all is_before is_between is_shared is_first is_second is_fault =
    let whole : all ≡ (old ++ a) ++ b = is_all ∙ ap (λ (cs : List Class). cs ++ b) is_middle in
    let place : between ≡ length (old ++ a) = is_between ∙ ap (λ (cs : List Class). length cs) is_middle in
    let found : shared ≡ any_share Attribute a b = is_shared ∙ ap (λ (n : ℕ). sides_share n between all) is_before ∙ ap (λ (n : ℕ). sides_share (length old) n all) place ∙ ap (sides_share (length old) (length (old ++ a))) whole ∙ sides_of_three old a b in
    (is_fault ∙ ap (λ (t : Bool). t || (first || second)) found ∙ ap (λ (t : Bool). any_share Attribute a b || (t || second)) is_first ∙ ap (λ (t : Bool). any_share Attribute a b || (one || t)) is_second, whole ∙ append_assoc old a b)

-- the class of a definition that was read, and none
pub class_read : {X : Type 0} (defs : List Def) (i : ℕ) (def : Def) (class : X → Class) (found grown : List X) (x : X) → Some def ≡ slice_get defs i → grown ≡ found ++ x ∷ [] → class x ≡ class_of def.class → map class grown ≡ map class found ++ class_at (slice_get (map definition_of defs) i)
class_read defs i def class found grown x read push is =
    ap (map class) push ∙ map-append class found (x ∷ []) ∙ ap (λ (c : Class). map class found ++ c ∷ []) is
    ∙ ap (λ (o : Option Definition). map class found ++ class_at o) (ap (option_map definition_of) read ∙ sym (slice_get-map definition_of defs i))

pub none_read : (defs : List Def) (i : ℕ) (before : List Class) → None ≡ slice_get defs i → before ≡ before ++ class_at (slice_get (map definition_of defs) i)
none_read defs i before read =
    sym (append-nil before) ∙ ap (λ (o : Option Definition). before ++ class_at o) (ap (option_map definition_of) read ∙ sym (slice_get-map definition_of defs i))
