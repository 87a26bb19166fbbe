-- Overlaps of choices and of single names are found by their parts.
use Rattle.std.specs.Prelude.{◌≡◌, ℕ, List, Bool, true, false, ◌||◌}
use Rattle.std.proofs.Common.{refl, sym, ◌∙◌, subst, inl, inr}
use Rattle.std.proofs.lemmas.Bool.{and_parts, and_from, or_left, or_right, or_cases}
use Rattle.std.specs.Str.{bytes_eq}
use Rattle.std.proofs.lemmas.Slice.Eq.{bytes_eq-Decides}
use Rattle.nx_base.specs.declared.name.Name.{Name}
use Rattle.nx_base.specs.Names.{is_xml_name, same_name}
use Rattle.rng_core.specs.declared.name_class.Bearer.TheVariants.{Element}
use Rattle.rng_core.specs.Names.{Class, any_name, ns_name, the_name, either, without, covers, has_name, Overlap}
use Rattle.rng_core.specs.Unmentioned.{overlaps, meets_part, borne, parts_meet}
use Rattle.rng_core.proofs.Overlaps.{overlap_is_found, overlap_is_there, same_fields, same_bytes, both_or}

-- two tests are alike where each follows from the other
pub alike : (a b : Bool) → (a ≡ true → b ≡ true) → (b ≡ true → a ≡ true) → a ≡ b
alike true b to from = sym (to refl)
alike false true to from = from refl
alike false false to from = refl

turned : {c d : Class} → Overlap c d → Overlap d c
turned o = record { name = o.name; first = o.second; second = o.first }

pub overlaps_turned : (c d : Class) → overlaps c d ≡ overlaps d c
overlaps_turned c d = alike (overlaps c d) (overlaps d c)
    (λ found. overlap_is_found d c (turned (overlap_is_there c d found)))
    (λ found. overlap_is_found c d (turned (overlap_is_there d c found)))

in_first : (x y : Class) (n : Name) → has_name x n ≡ true → has_name (either x y) n ≡ true
in_first x y n h = let p = and_parts (is_xml_name n) (covers x n) h in and_from _ _ p.0 (or_left _ _ p.1)

in_second : (x y : Class) (n : Name) → has_name y n ≡ true → has_name (either x y) n ≡ true
in_second x y n h = let p = and_parts (is_xml_name n) (covers y n) h in and_from _ _ p.0 (or_right (covers x n) _ p.1)

either_overlaps : (x y d : Class) → Overlap (either x y) d → (overlaps x d || overlaps y d) ≡ true
either_overlaps x y d o =
    let p = and_parts (is_xml_name o.name) (covers x o.name || covers y o.name) o.first in
    elim (or_cases (covers x o.name) (covers y o.name) p.1) [
      | inl first ↦ or_left _ _ (overlap_is_found x d (record { name = o.name; first = and_from _ _ p.0 first; second = o.second }))
      | inr second ↦ or_right (overlaps x d) _ (overlap_is_found y d (record { name = o.name; first = and_from _ _ p.0 second; second = o.second }))
    ]

overlaps_either : (x y d : Class) → (overlaps x d || overlaps y d) ≡ true → Overlap (either x y) d
overlaps_either x y d found = elim (or_cases (overlaps x d) (overlaps y d) found) [
  | inl first ↦ let o = overlap_is_there x d first in record { name = o.name; first = in_first x y o.name o.first; second = o.second }
  | inr second ↦ let o = overlap_is_there y d second in record { name = o.name; first = in_second x y o.name o.first; second = o.second }
]

-- a choice shares a name where one of its sides does
pub overlaps_of_first : (x y d : Class) → overlaps (either x y) d ≡ (overlaps x d || overlaps y d)
overlaps_of_first x y d = alike (overlaps (either x y) d) (overlaps x d || overlaps y d)
    (λ found. either_overlaps x y d (overlap_is_there (either x y) d found))
    (λ found. overlap_is_found (either x y) d (overlaps_either x y d found))

pub overlaps_of_second : (c x y : Class) → overlaps c (either x y) ≡ (overlaps c x || overlaps c y)
overlaps_of_second c x y =
    let both : (overlaps x c || overlaps y c) ≡ (overlaps c x || overlaps c y) = rw (overlaps_turned x c, overlaps_turned y c) refl in
    overlaps_turned c (either x y) ∙ overlaps_of_first x y c ∙ both

-- a single name is shared where the other class has it
name_overlaps : (n : Name) (d : Class) → Overlap (the_name n) d → has_name d n ≡ true
name_overlaps n d o =
    let p = and_parts (is_xml_name o.name) (same_name o.name n) o.first in
    let q = and_parts (bytes_eq o.name.ns n.ns) (bytes_eq o.name.local n.local) p.1 in
    let same : o.name ≡ n = same_fields o.name n (same_bytes o.name.ns n.ns q.0) (same_bytes o.name.local n.local q.1) in
    let P : Name → Type 0 = λ m. has_name d m ≡ true in
    subst P same o.second

pub same_to_itself : (b : List ℕ) → bytes_eq b b ≡ true
same_to_itself b = (bytes_eq-Decides b b).1 refl

has_itself : (n : Name) (d : Class) → has_name d n ≡ true → has_name (the_name n) n ≡ true
has_itself n d h =
    let p = and_parts (is_xml_name n) (covers d n) h in
    and_from _ _ p.0 (and_from _ _ (same_to_itself n.ns) (same_to_itself n.local))

overlaps_of_name : (n : Name) (d : Class) → overlaps (the_name n) d ≡ has_name d n
overlaps_of_name n d = alike (overlaps (the_name n) d) (has_name d n)
    (λ found. name_overlaps n d (overlap_is_there (the_name n) d found))
    (λ found. overlap_is_found (the_name n) d (record { name = n; first = has_itself n d found; second = found }))

-- so a class may be taken apart
pub part_is_met : (c d : Class) → meets_part c d ≡ overlaps c d
part_is_met c any_name = refl
part_is_met c (ns_name ns) = refl
part_is_met c (the_name m) = sym (overlaps_of_name m c) ∙ overlaps_turned (the_name m) c
part_is_met c (either x y) = both_or _ _ _ _ (part_is_met c x) (part_is_met c y) ∙ sym (overlaps_of_second c x y)
part_is_met c (without x y) = refl

pub elements_are_met : (c d : Class) → parts_meet Element c d ≡ overlaps c d
unfolding borne
elements_are_met any_name d = part_is_met any_name d
elements_are_met (ns_name ns) d = part_is_met (ns_name ns) d
elements_are_met (the_name m) d = sym (overlaps_of_name m d)
elements_are_met (either x y) d = both_or _ _ _ _ (elements_are_met x d) (elements_are_met y d) ∙ sym (overlaps_of_first x y d)
elements_are_met (without x y) d = part_is_met (without x y) d
