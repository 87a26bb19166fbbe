-- Overlaps of elements in an interleave are found.
use Rattle.std.specs.Prelude.{◌≡◌, ℕ, true, List, [], ◌∷◌, ◌++◌, Option, Some, None, slice_get}
use Rattle.std.proofs.Common.{refl, inl, inr}
use Rattle.std.proofs.lemmas.Bool.{false≢true}
use Rattle.rng_core.specs.Names.{Class, Overlap}
use Rattle.rng_core.specs.Patterns.{Pattern, Definition, not_allowed, empty, any_text, typed, literal, listed, attribute, ref, one_or_more, choice, group, interleave}
use Rattle.rng_restrict.specs.Standing.{Stands, Occurs, as_itself, below_one_or_more, below_first_choice, below_second_choice, below_first_of_group, below_second_of_group, below_first_of_interleave, below_second_of_interleave}
use Rattle.rng_restrict.specs.Interleaves.{HasInterleaveOverlap, elements_overlap}
use Rattle.rng_core.specs.declared.name_class.Bearer.TheVariants.{Element}
use Rattle.rng_restrict.specs.Finding.{has_part, class_at, element_classes, is_element_overlap}
use Rattle.rng_restrict.proofs.Members.{IsIn, here, further, in_left, in_right, in_either}
use Rattle.rng_restrict.proofs.PartsFound.{part_found, part_is_found}
use Rattle.rng_restrict.proofs.AttributesFound.{share_found, share_is_found}

-- a reference to an element with the class occurs in the pattern
record Named (defs : List Definition) (p : Pattern) (class : Class) : Type 0 where
  number : ℕ
  definition : Definition
  occurs : Occurs (ref number) p
  there : slice_get defs number ≡ Some definition
  named : definition.class ≡ class

moved : {defs : List Definition} {p q : Pattern} {c : Class} → ((x : Pattern) → Occurs x p → Occurs x q) → Named defs p c → Named defs q c
moved below o = record { number = o.number; definition = o.definition; occurs = below (ref o.number) o.occurs; there = o.there; named = o.named }

of_sides : {defs : List Definition} {p q whole : Pattern} {c : Class} → ((x : Pattern) → Occurs x p → Occurs x whole) → ((x : Pattern) → Occurs x q → Occurs x whole) → (IsIn c (element_classes defs p) → Named defs p c) → (IsIn c (element_classes defs q) → Named defs q c) → IsIn c (element_classes defs p ++ element_classes defs q) → Named defs whole c
of_sides {defs = defs} {p = p} {q = q} first second from_p from_q m = elim (in_either (element_classes defs p) (element_classes defs q) m) [
  | inl n ↦ moved first (from_p n)
  | inr n ↦ moved second (from_q n)
]

only : {c d : Class} → IsIn c (d ∷ []) → d ≡ c
only here = refl
only (further m) = elim m [ ]

at_number : (defs : List Definition) (i : ℕ) (o : Option Definition) {c : Class} → slice_get defs i ≡ o → IsIn c (class_at o) → Named defs (ref i) c
at_number defs i None there m = elim m [ ]
at_number defs i (Some d) there m = record { number = i; definition = d; occurs = as_itself; there = there; named = only m }

class_found : (defs : List Definition) (p : Pattern) {c : Class} → IsIn c (element_classes defs p) → Named defs p c
class_found defs not_allowed m = elim m [ ]
class_found defs empty m = elim m [ ]
class_found defs any_text m = elim m [ ]
class_found defs (typed type excepts) m = elim m [ ]
class_found defs (literal type text) m = elim m [ ]
class_found defs (listed p) m = elim m [ ]
class_found defs (attribute d p) m = elim m [ ]
class_found defs (ref i) m = at_number defs i (slice_get defs i) refl m
class_found defs (one_or_more p) m = moved (λ x o. below_one_or_more o) (class_found defs p m)
class_found defs (choice p q) m = of_sides (λ x o. below_first_choice o) (λ x o. below_second_choice o) (λ n. class_found defs p n) (λ n. class_found defs q n) m
class_found defs (group p q) m = of_sides (λ x o. below_first_of_group o) (λ x o. below_second_of_group o) (λ n. class_found defs p n) (λ n. class_found defs q n) m
class_found defs (interleave p q) m = of_sides (λ x o. below_first_of_interleave o) (λ x o. below_second_of_interleave o) (λ n. class_found defs p n) (λ n. class_found defs q n) m

is_there : (defs : List Definition) (i : ℕ) (d : Definition) → slice_get defs i ≡ Some d → IsIn d.class (class_at (slice_get defs i))
is_there defs i d there = rw there here

class_is_found : (defs : List Definition) {i : ℕ} {d : Definition} {p : Pattern} → Occurs (ref i) p → slice_get defs i ≡ Some d → IsIn d.class (element_classes defs p)
class_is_found defs {i = i} {d = d} as_itself there = is_there defs i d there
class_is_found defs (below_one_or_more o) there = class_is_found defs o there
class_is_found defs (below_first_choice {r = r} o) there = in_left (element_classes defs r) (class_is_found defs o there)
class_is_found defs (below_second_choice {p = p} o) there = in_right (element_classes defs p) (class_is_found defs o there)
class_is_found defs (below_first_of_group {r = r} o) there = in_left (element_classes defs r) (class_is_found defs o there)
class_is_found defs (below_second_of_group {p = p} o) there = in_right (element_classes defs p) (class_is_found defs o there)
class_is_found defs (below_first_of_interleave {r = r} o) there = in_left (element_classes defs r) (class_is_found defs o there)
class_is_found defs (below_second_of_interleave {p = p} o) there = in_right (element_classes defs p) (class_is_found defs o there)

renamed : {a b c d : Class} → a ≡ c → b ≡ d → Overlap c d → Overlap a b
renamed one other o = rw (one, other) o

overlap_in : (defs : List Definition) (p q : Pattern) → Stands q p → is_element_overlap defs q ≡ true → HasInterleaveOverlap defs p
overlap_in defs p (interleave a b) s is =
    let r = share_found Element (element_classes defs a) (element_classes defs b) is in
    let m = class_found defs a r.is_first in
    let n = class_found defs b r.is_second in
    elements_overlap s m.occurs m.there n.occurs n.there (renamed m.named n.named r.overlap)
overlap_in defs p q s is = absurd (false≢true is)

pub element_overlap_found : (defs : List Definition) (p : Pattern) → has_part (is_element_overlap defs) p ≡ true → HasInterleaveOverlap defs p
element_overlap_found defs p found = let r = part_found (is_element_overlap defs) p found in overlap_in defs p r.part r.stands r.passed

pub element_overlap_is_found : (defs : List Definition) (p : Pattern) → HasInterleaveOverlap defs p → has_part (is_element_overlap defs) p ≡ true
element_overlap_is_found defs p (elements_overlap {a = a} {b = b} s m there n here_too o) =
    part_is_found (is_element_overlap defs) s (share_is_found Element (element_classes defs a) (element_classes defs b) (class_is_found defs m there) (class_is_found defs n here_too) o)
