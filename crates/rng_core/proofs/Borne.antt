-- Names that an attribute can have are those of a class without `xmlns`.
use Rattle.std.specs.Prelude.{◌≡◌, ℕ, List, [], Bool, true, false, not, ◌&&◌, ◌||◌, codes, IsTrue, ◌↔◌}
use Rattle.std.proofs.Common.{refl, sym, ◌∙◌, ap, subst, inl, inr}
use Rattle.std.proofs.lemmas.Bool.{and_parts, and_from, or_left, or_right, or_cases, false≢true}
use Rattle.std.specs.Str.{bytes_eq}
use Rattle.nx_base.specs.declared.name.Name.{Name}
use Rattle.nx_base.specs.Names.{is_namespace, is_xml_name, is_attribute_name, same_name}
use Rattle.rng_core.specs.declared.name_class.Bearer.{Bearer}
use Rattle.rng_core.specs.declared.name_class.Bearer.TheVariants.{Element, Attribute}
use Rattle.rng_core.specs.Names.{Class, any_name, ns_name, the_name, either, without, covers, has_name, has_attribute_name, AttributeOverlap}
use Rattle.rng_core.specs.Unmentioned.{xmlns_name, OverlapAs, covers_others_in, covers_others, share_others_in, meets_at, overlaps, borne, meets_as, tries, parts_meet}
use Rattle.rng_core.proofs.Overlaps.{overlap_is_found, overlap_is_there, same_fields, same_bytes, both_or}
use Rattle.rng_core.proofs.Parts.{alike, same_to_itself, part_is_met, elements_are_met}

but_last : (a b d : Bool) → (a && (b && not d)) ≡ ((a && not d) && b)
but_last true true true = refl
but_last true true false = refl
but_last true false true = refl
but_last true false false = refl
but_last false b d = refl

pub has_borne : (c : Class) (n : Name) → has_name (borne Attribute c) n ≡ has_attribute_name c n
unfolding borne
has_borne c n = but_last (is_xml_name n) (covers c n) (same_name n xmlns_name)

and_true : (b : Bool) → (b && true) ≡ b
and_true true = refl
and_true false = refl

pub others_borne : (bearer : Bearer) (c : Class) → covers_others (borne bearer c) ≡ covers_others c
unfolding borne
others_borne Element c = refl
others_borne Attribute c = and_true (covers_others c)

others_in_borne : (bearer : Bearer) (c : Class) (ns : List ℕ) → covers_others_in (borne bearer c) ns ≡ covers_others_in c ns
unfolding borne
others_in_borne Element c ns = refl
others_in_borne Attribute c ns = and_true (covers_others_in c ns)

pub shared_borne : (bearer : Bearer) (c d : Class) (ns : List ℕ) → share_others_in (borne bearer c) d ns ≡ share_others_in c d ns
shared_borne bearer c d ns = ap (λ b. is_namespace ns && (b && covers_others_in d ns)) (others_in_borne bearer c ns)

-- `xmlns` isn't in a class without it
none_and : (a b c d : Bool) → d ≡ true → ((a && (b && not d)) && c) ≡ false
none_and true true c true is = refl
none_and true false c true is = refl
none_and false b c true is = refl
none_and a b c false is = absurd (false≢true is)

xmlns_itself : same_name xmlns_name xmlns_name ≡ true
xmlns_itself = and_from _ _ (same_to_itself []) (same_to_itself (codes "xmlns"))

at_xmlns : (c d : Class) → meets_at (the_name xmlns_name) (borne Attribute c) d ≡ share_others_in c d []
unfolding borne
at_xmlns c d =
    let none : (has_name (borne Attribute c) xmlns_name && has_name d xmlns_name) ≡ false = none_and (is_xml_name xmlns_name) (covers c xmlns_name) (has_name d xmlns_name) (same_name xmlns_name xmlns_name) xmlns_itself in
    ap (λ b. b || share_others_in (borne Attribute c) d []) none ∙ shared_borne Attribute c d []

or_turned : (o m s n : Bool) → (o || ((m || s) || n)) ≡ ((o || (m || n)) || s)
or_turned true m s n = refl
or_turned false true s n = refl
or_turned false false true true = refl
or_turned false false true false = refl
or_turned false false false n = or_false n
  where
    or_false : (b : Bool) → b ≡ (b || false)
    or_false true = refl
    or_false false = refl

meets_borne : (bearer : Bearer) (x c d : Class) → meets_as bearer x c d ≡ meets_at x (borne bearer c) d
meets_borne bearer any_name c d = refl
meets_borne bearer (ns_name ns) c d = sym (shared_borne bearer c d ns)
meets_borne bearer (the_name m) c d = ap (λ b. (has_name (borne bearer c) m && has_name d m) || b) (sym (shared_borne bearer c d m.ns))
meets_borne bearer (either x y) c d = both_or _ _ _ _ (meets_borne bearer x c d) (meets_borne bearer y c d)
meets_borne bearer (without x y) c d = both_or _ _ _ _ (meets_borne bearer x c d) (meets_borne bearer y c d)

tried : (bearer : Bearer) (c d : Class) → (meets_as bearer c c d || meets_as bearer d c d) ≡ (meets_at c (borne bearer c) d || meets_at d (borne bearer c) d)
tried bearer c d = both_or _ _ _ _ (meets_borne bearer c c d) (meets_borne bearer d c d)

-- what is tried suffices, of attributes with what no namespace has
tries_elements : (c d : Class) → tries Element c d ≡ overlaps (borne Element c) d
unfolding borne
tries_elements c d = ap (λ b. (covers_others c && covers_others d) || b) (tried Element c d)

tries_attributes : (c d : Class) → (tries Attribute c d || share_others_in c d []) ≡ overlaps (borne Attribute c) d
unfolding borne
tries_attributes c d =
    let e : Class = borne Attribute c in
    ap (λ b. ((covers_others c && covers_others d) || b) || share_others_in c d []) (tried Attribute c d)
    ∙ sym (ap (λ b. (covers_others e && covers_others d) || ((meets_at c e d || b) || meets_at d e d)) (at_xmlns c d)
    ∙ ap (λ b. (b && covers_others d) || ((meets_at c e d || share_others_in c d []) || meets_at d e d)) (others_borne Attribute c)
    ∙ or_turned (covers_others c && covers_others d) (meets_at c e d) (share_others_in c d []) (meets_at d e d))

pub elements_tried : (bearer : Bearer) (c d : Class) → bearer ≡ Element → tries Element c d ≡ overlaps (borne bearer c) d
elements_tried bearer c d is =
    let P : Bearer → Type 0 = λ b. tries Element c d ≡ overlaps (borne b c) d in
    subst P (sym is) (tries_elements c d)

pub attributes_tried : (bearer : Bearer) (c d : Class) → bearer ≡ Attribute → (tries Attribute c d || share_others_in c d []) ≡ overlaps (borne bearer c) d
attributes_tried bearer c d is =
    let P : Bearer → Type 0 = λ b. (tries Attribute c d || share_others_in c d []) ≡ overlaps (borne b c) d in
    subst P (sym is) (tries_attributes c d)

-- some name of an attribute is in both
attribute_is_there : (c d : Class) → overlaps (borne Attribute c) d ≡ true → AttributeOverlap c d
attribute_is_there c d found =
    let o = overlap_is_there (borne Attribute c) d found in
    let first : has_attribute_name c o.name ≡ true = sym (has_borne c o.name) ∙ o.first in
    record {
      name = o.name;
      first = first;
      second = and_from _ _ (and_parts (is_attribute_name o.name) (covers c o.name) first).0 (and_parts (is_xml_name o.name) (covers d o.name) o.second).1;
    }

attribute_is_found : (c d : Class) → AttributeOverlap c d → overlaps (borne Attribute c) d ≡ true
attribute_is_found c d o =
    let parts = and_parts (is_attribute_name o.name) (covers d o.name) o.second in
    let xml = and_parts (is_xml_name o.name) (not (same_name o.name xmlns_name)) parts.0 in
    overlap_is_found (borne Attribute c) d (record { name = o.name; first = has_borne c o.name ∙ o.first; second = and_from _ _ xml.0 parts.1 })

-- a choice shares one where one of its sides does
either_parts : (x y d : Class) → AttributeOverlap (either x y) d → (overlaps (borne Attribute x) d || overlaps (borne Attribute y) d) ≡ true
either_parts x y d o =
    let p = and_parts (is_attribute_name o.name) (covers x o.name || covers y o.name) o.first in
    elim (or_cases (covers x o.name) (covers y o.name) p.1) [
      | inl first ↦ or_left _ _ (attribute_is_found x d (record { name = o.name; first = and_from _ _ p.0 first; second = o.second }))
      | inr second ↦ or_right (overlaps (borne Attribute x) d) _ (attribute_is_found y d (record { name = o.name; first = and_from _ _ p.0 second; second = o.second }))
    ]

widened : (x y d : Class) (o : AttributeOverlap x d) → (covers x o.name ≡ true → covers y o.name ≡ true) → AttributeOverlap y d
widened x y d o more =
    let p = and_parts (is_attribute_name o.name) (covers x o.name) o.first in
    record { name = o.name; first = and_from _ _ p.0 (more p.1); second = o.second }

parts_either : (x y d : Class) → (overlaps (borne Attribute x) d || overlaps (borne Attribute y) d) ≡ true → AttributeOverlap (either x y) d
parts_either x y d found = elim (or_cases (overlaps (borne Attribute x) d) (overlaps (borne Attribute y) d) found) [
  | inl first ↦ widened x (either x y) d (attribute_is_there x d first) (λ h. or_left _ _ h)
  | inr second ↦ let o = attribute_is_there y d second in widened y (either x y) d o (λ h. or_right (covers x o.name) _ h)
]

either_met : (x y d : Class) → overlaps (borne Attribute (either x y)) d ≡ (overlaps (borne Attribute x) d || overlaps (borne Attribute y) d)
either_met x y d = alike (overlaps (borne Attribute (either x y)) d) (overlaps (borne Attribute x) d || overlaps (borne Attribute y) d)
    (λ found. either_parts x y d (attribute_is_there (either x y) d found))
    (λ found. attribute_is_found (either x y) d (parts_either x y d found))

-- a single name is shared where the other class has it
name_there : (m : Name) (d : Class) → AttributeOverlap (the_name m) d → has_attribute_name d m ≡ true
name_there m d o =
    let p = and_parts (is_attribute_name o.name) (same_name o.name m) o.first in
    let q = and_parts (bytes_eq o.name.ns m.ns) (bytes_eq o.name.local m.local) p.1 in
    let same : o.name ≡ m = same_fields o.name m (same_bytes o.name.ns m.ns q.0) (same_bytes o.name.local m.local q.1) in
    let P : Name → Type 0 = λ n. has_attribute_name d n ≡ true in
    subst P same o.second

there_name : (m : Name) (d : Class) → has_attribute_name d m ≡ true → AttributeOverlap (the_name m) d
there_name m d has = record {
  name = m;
  first = and_from _ _ (and_parts (is_attribute_name m) (covers d m) has).0 (and_from _ _ (same_to_itself m.ns) (same_to_itself m.local));
  second = has;
}

name_met : (m : Name) (d : Class) → has_name (borne Attribute d) m ≡ overlaps (borne Attribute (the_name m)) d
name_met m d = has_borne d m ∙ alike (has_attribute_name d m) (overlaps (borne Attribute (the_name m)) d)
    (λ has. attribute_is_found (the_name m) d (there_name m d has))
    (λ found. name_there m d (attribute_is_there (the_name m) d found))

attributes_are_met : (c d : Class) → parts_meet Attribute c d ≡ overlaps (borne Attribute c) d
attributes_are_met any_name d = part_is_met (borne Attribute any_name) d
attributes_are_met (ns_name ns) d = part_is_met (borne Attribute (ns_name ns)) d
attributes_are_met (the_name m) d = name_met m d
attributes_are_met (either x y) d = both_or _ _ _ _ (attributes_are_met x d) (attributes_are_met y d) ∙ sym (either_met x y d)
attributes_are_met (without x y) d = part_is_met (borne Attribute (without x y)) d

-- so for each bearer it is told whether there is a name
pub overlap_there : (bearer : Bearer) (c d : Class) → overlaps (borne bearer c) d ≡ true → OverlapAs bearer c d
unfolding borne
overlap_there Element c d found = overlap_is_there c d found
overlap_there Attribute c d found = attribute_is_there c d found

pub overlap_found : (bearer : Bearer) (c d : Class) → OverlapAs bearer c d → overlaps (borne bearer c) d ≡ true
unfolding borne
overlap_found Element c d o = overlap_is_found c d o
overlap_found Attribute c d o = attribute_is_found c d o

parts_are_met : (bearer : Bearer) (c d : Class) → parts_meet bearer c d ≡ overlaps (borne bearer c) d
unfolding borne
parts_are_met Element c d = elements_are_met c d
parts_are_met Attribute c d = attributes_are_met c d

pub told_by : (bearer : Bearer) (c d : Class) (result : Bool) → result ≡ parts_meet bearer c d → IsTrue result ↔ OverlapAs bearer c d
told_by bearer c d result is =
    let same : result ≡ overlaps (borne bearer c) d = is ∙ parts_are_met bearer c d in
    (λ found. overlap_there bearer c d (sym same ∙ found), λ o. same ∙ overlap_found bearer c d o)
