-- Overlaps of attributes, and wildcards, are found.
use Rattle.std.specs.Prelude.{◌≡◌, true, ◌||◌, List, [], ◌∷◌, ◌++◌}
use Rattle.std.specs.List.{list_any}
use Rattle.std.proofs.Common.{refl, inl, inr}
use Rattle.std.proofs.lemmas.Bool.{false≢true, or_left, or_right, or_cases}
use Rattle.rng_core.specs.Names.{Class, any_name, ns_name, the_name, either, without}
use Rattle.rng_core.specs.Patterns.{Pattern, not_allowed, empty, any_text, typed, literal, listed, attribute, ref, one_or_more, choice, group, interleave}
use Rattle.rng_core.specs.declared.name_class.Bearer.{Bearer}
use Rattle.rng_core.specs.declared.name_class.Bearer.TheVariants.{Attribute}
use Rattle.rng_core.specs.Unmentioned.{OverlapAs}
use Rattle.rng_core.proofs.Borne.{overlap_found, overlap_there}
use Rattle.rng_restrict.specs.Standing.{Stands, StandsOnce, once_itself, once_in_list, once_in_attribute, once_in_first_choice, once_in_second_choice, once_in_first_of_group, once_in_second_of_group, once_in_first_of_interleave, once_in_second_of_interleave, Occurs, as_itself, below_one_or_more, below_first_choice, below_second_choice, below_first_of_group, below_second_of_group, below_first_of_interleave, below_second_of_interleave}
use Rattle.rng_restrict.specs.Attributes.{HasAttributeOverlap, in_group, in_interleave, HasWildcard, any_name_stands, ns_name_stands, in_first, in_second, in_all, in_taken, HasWildcardOnce, wildcard_once}
use Rattle.rng_restrict.specs.Finding.{has_part, share_name, any_share, attribute_classes, is_attribute_overlap, is_wildcard, has_wildcard_once}
use Rattle.rng_restrict.proofs.Members.{IsIn, here, further, in_left, in_right, in_either, any_passes, passes_any}
use Rattle.rng_restrict.proofs.PartsFound.{part_found, part_is_found}

-- one class of each list, with a name of such a bearer in common
pub record Shared (bearer : Bearer) (cs ds : List Class) : Type 0 where
  pub first : Class
  pub second : Class
  pub is_first : IsIn first cs
  pub is_second : IsIn second ds
  pub overlap : OverlapAs bearer first second

pub share_found : (bearer : Bearer) (cs ds : List Class) → any_share bearer cs ds ≡ true → Shared bearer cs ds
unfolding any_share share_name
share_found bearer cs ds found =
    let p = any_passes (λ c. list_any (λ d. share_name bearer c d) ds) cs found in
    let q = any_passes (λ d. share_name bearer p.item d) ds p.passed in
    record { first = p.item; second = q.item; is_first = p.member; is_second = q.member; overlap = overlap_there bearer p.item q.item q.passed }

pub share_is_found : (bearer : Bearer) (cs ds : List Class) {c d : Class} → IsIn c cs → IsIn d ds → OverlapAs bearer c d → any_share bearer cs ds ≡ true
unfolding any_share share_name
share_is_found bearer cs ds {c = c} {d = d} m n o =
    passes_any (λ x. list_any (λ y. share_name bearer x y) ds) m (passes_any (λ y. share_name bearer c y) n (overlap_found bearer c d o))

-- an attribute with the class occurs in the pattern
record Occurring (p : Pattern) (class : Class) : Type 0 where
  body : Pattern
  occurs : Occurs (attribute class body) p

moved : {p q : Pattern} {c : Class} → ((x : Pattern) → Occurs x p → Occurs x q) → Occurring p c → Occurring q c
moved {c = c} below o = record { body = o.body; occurs = below (attribute c o.body) o.occurs }

of_sides : {p q whole : Pattern} {c : Class} → ((x : Pattern) → Occurs x p → Occurs x whole) → ((x : Pattern) → Occurs x q → Occurs x whole) → (IsIn c (attribute_classes p) → Occurring p c) → (IsIn c (attribute_classes q) → Occurring q c) → IsIn c (attribute_classes p ++ attribute_classes q) → Occurring whole c
of_sides {p = p} {q = q} first second from_p from_q m = elim (in_either (attribute_classes p) (attribute_classes q) m) [
  | inl n ↦ moved first (from_p n)
  | inr n ↦ moved second (from_q n)
]

only : {c d : Class} (body : Pattern) → IsIn c (d ∷ []) → Occurring (attribute d body) c
only body here = record { body = body; occurs = as_itself }
only body (further m) = elim m [ ]

class_found : (p : Pattern) {c : Class} → IsIn c (attribute_classes p) → Occurring p c
class_found not_allowed m = elim m [ ]
class_found empty m = elim m [ ]
class_found any_text m = elim m [ ]
class_found (typed type excepts) m = elim m [ ]
class_found (literal type text) m = elim m [ ]
class_found (listed p) m = elim m [ ]
class_found (attribute d p) m = only p m
class_found (ref i) m = elim m [ ]
class_found (one_or_more p) m = moved (λ x o. below_one_or_more o) (class_found p m)
class_found (choice p q) m = of_sides (λ x o. below_first_choice o) (λ x o. below_second_choice o) (λ n. class_found p n) (λ n. class_found q n) m
class_found (group p q) m = of_sides (λ x o. below_first_of_group o) (λ x o. below_second_of_group o) (λ n. class_found p n) (λ n. class_found q n) m
class_found (interleave p q) m = of_sides (λ x o. below_first_of_interleave o) (λ x o. below_second_of_interleave o) (λ n. class_found p n) (λ n. class_found q n) m

class_is_found : {c : Class} {body p : Pattern} → Occurs (attribute c body) p → IsIn c (attribute_classes p)
class_is_found as_itself = here
class_is_found (below_one_or_more o) = class_is_found o
class_is_found (below_first_choice {r = r} o) = in_left (attribute_classes r) (class_is_found o)
class_is_found (below_second_choice {p = p} o) = in_right (attribute_classes p) (class_is_found o)
class_is_found (below_first_of_group {r = r} o) = in_left (attribute_classes r) (class_is_found o)
class_is_found (below_second_of_group {p = p} o) = in_right (attribute_classes p) (class_is_found o)
class_is_found (below_first_of_interleave {r = r} o) = in_left (attribute_classes r) (class_is_found o)
class_is_found (below_second_of_interleave {p = p} o) = in_right (attribute_classes p) (class_is_found o)

overlap_in : (p q : Pattern) → Stands q p → is_attribute_overlap q ≡ true → HasAttributeOverlap p
overlap_in p (group a b) s is =
    let r = share_found Attribute (attribute_classes a) (attribute_classes b) is in
    in_group s (class_found a r.is_first).occurs (class_found b r.is_second).occurs r.overlap
overlap_in p (interleave a b) s is =
    let r = share_found Attribute (attribute_classes a) (attribute_classes b) is in
    in_interleave s (class_found a r.is_first).occurs (class_found b r.is_second).occurs r.overlap
overlap_in p q s is = absurd (false≢true is)

pub attribute_overlap_found : (p : Pattern) → has_part is_attribute_overlap p ≡ true → HasAttributeOverlap p
attribute_overlap_found p found = let r = part_found is_attribute_overlap p found in overlap_in p r.part r.stands r.passed

pub attribute_overlap_is_found : (p : Pattern) → HasAttributeOverlap p → has_part is_attribute_overlap p ≡ true
attribute_overlap_is_found p (in_group {a = a} {b = b} s m n o) =
    part_is_found is_attribute_overlap s (share_is_found Attribute (attribute_classes a) (attribute_classes b) (class_is_found m) (class_is_found n) o)
attribute_overlap_is_found p (in_interleave {a = a} {b = b} s m n o) =
    part_is_found is_attribute_overlap s (share_is_found Attribute (attribute_classes a) (attribute_classes b) (class_is_found m) (class_is_found n) o)

wildcard_found : (c : Class) → is_wildcard c ≡ true → HasWildcard c
wildcard_found any_name is = any_name_stands
wildcard_found (ns_name ns) is = ns_name_stands
wildcard_found (the_name name) is = absurd (false≢true is)
wildcard_found (either c d) is = elim (or_cases (is_wildcard c) (is_wildcard d) is) [ inl first ↦ in_first (wildcard_found c first) | inr second ↦ in_second (wildcard_found d second) ]
wildcard_found (without c d) is = elim (or_cases (is_wildcard c) (is_wildcard d) is) [ inl first ↦ in_all (wildcard_found c first) | inr second ↦ in_taken (wildcard_found d second) ]

wildcard_is_found : {c : Class} → HasWildcard c → is_wildcard c ≡ true
wildcard_is_found any_name_stands = refl
wildcard_is_found ns_name_stands = refl
wildcard_is_found (in_first w) = or_left _ _ (wildcard_is_found w)
wildcard_is_found (in_second {c = c} w) = or_right (is_wildcard c) _ (wildcard_is_found w)
wildcard_is_found (in_all w) = or_left _ _ (wildcard_is_found w)
wildcard_is_found (in_taken {c = c} w) = or_right (is_wildcard c) _ (wildcard_is_found w)

once_below : {p q : Pattern} → ((x : Pattern) → StandsOnce x p → StandsOnce x q) → HasWildcardOnce p → HasWildcardOnce q
once_below below (wildcard_once {c = c} {x = x} s w) = wildcard_once (below (attribute c x) s) w

once_in_sides : {p q whole : Pattern} → ((x : Pattern) → StandsOnce x p → StandsOnce x whole) → ((x : Pattern) → StandsOnce x q → StandsOnce x whole) → (has_wildcard_once p ≡ true → HasWildcardOnce p) → (has_wildcard_once q ≡ true → HasWildcardOnce q) → (has_wildcard_once p || has_wildcard_once q) ≡ true → HasWildcardOnce whole
once_in_sides {p = p} {q = q} first second from_p from_q found = elim (or_cases (has_wildcard_once p) (has_wildcard_once q) found) [
  | inl n ↦ once_below first (from_p n)
  | inr n ↦ once_below second (from_q n)
]

pub wildcard_once_found : (p : Pattern) → has_wildcard_once p ≡ true → HasWildcardOnce p
wildcard_once_found not_allowed found = absurd (false≢true found)
wildcard_once_found empty found = absurd (false≢true found)
wildcard_once_found any_text found = absurd (false≢true found)
wildcard_once_found (typed type excepts) found = absurd (false≢true found)
wildcard_once_found (literal type text) found = absurd (false≢true found)
wildcard_once_found (listed p) found = once_below (λ x s. once_in_list s) (wildcard_once_found p found)
wildcard_once_found (attribute c p) found = elim (or_cases (is_wildcard c) (has_wildcard_once p) found) [
  | inl w ↦ wildcard_once once_itself (wildcard_found c w)
  | inr n ↦ once_below (λ x s. once_in_attribute s) (wildcard_once_found p n)
]
wildcard_once_found (ref i) found = absurd (false≢true found)
wildcard_once_found (one_or_more p) found = absurd (false≢true found)
wildcard_once_found (choice p q) found = once_in_sides (λ x s. once_in_first_choice s) (λ x s. once_in_second_choice s) (λ n. wildcard_once_found p n) (λ n. wildcard_once_found q n) found
wildcard_once_found (group p q) found = once_in_sides (λ x s. once_in_first_of_group s) (λ x s. once_in_second_of_group s) (λ n. wildcard_once_found p n) (λ n. wildcard_once_found q n) found
wildcard_once_found (interleave p q) found = once_in_sides (λ x s. once_in_first_of_interleave s) (λ x s. once_in_second_of_interleave s) (λ n. wildcard_once_found p n) (λ n. wildcard_once_found q n) found

once_is_found : {c : Class} {x p : Pattern} → StandsOnce (attribute c x) p → is_wildcard c ≡ true → has_wildcard_once p ≡ true
once_is_found once_itself w = or_left _ _ w
once_is_found (once_in_list s) w = once_is_found s w
once_is_found (once_in_attribute {class = class} s) w = or_right (is_wildcard class) _ (once_is_found s w)
once_is_found (once_in_first_choice s) w = or_left _ _ (once_is_found s w)
once_is_found (once_in_second_choice {p = p} s) w = or_right (has_wildcard_once p) _ (once_is_found s w)
once_is_found (once_in_first_of_group s) w = or_left _ _ (once_is_found s w)
once_is_found (once_in_second_of_group {p = p} s) w = or_right (has_wildcard_once p) _ (once_is_found s w)
once_is_found (once_in_first_of_interleave s) w = or_left _ _ (once_is_found s w)
once_is_found (once_in_second_of_interleave {p = p} s) w = or_right (has_wildcard_once p) _ (once_is_found s w)

pub wildcard_once_is_found : (p : Pattern) → HasWildcardOnce p → has_wildcard_once p ≡ true
wildcard_once_is_found p (wildcard_once s w) = once_is_found s (wildcard_is_found w)
