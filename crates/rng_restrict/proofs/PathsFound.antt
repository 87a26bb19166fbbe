-- Prohibited paths are found.
use Rattle.std.specs.Prelude.{◌≡◌, true}
use Rattle.std.proofs.Common.{refl}
use Rattle.std.proofs.lemmas.Bool.{false≢true}
use Rattle.rng_core.specs.Names.{Class}
use Rattle.rng_core.specs.Patterns.{Pattern, not_allowed, empty, any_text, typed, literal, listed, attribute, ref, one_or_more, choice, group, interleave}
use Rattle.rng_restrict.specs.Standing.{Stands}
use Rattle.rng_restrict.specs.Paths.{HasPath, attribute_below_attribute, ref_below_attribute, attribute_below_repeated_group, attribute_below_repeated_interleave, list_below_list, ref_below_list, attribute_below_list, text_below_list, interleave_below_list, HasStartPath, attribute_in_start, data_in_start, value_in_start, text_in_start, list_in_start, group_in_start, interleave_in_start, one_or_more_in_start, empty_in_start}
use Rattle.rng_restrict.specs.Finding.{has_part, is_attribute, is_outside_attributes, is_outside_lists, is_attribute_group, begins_path, is_outside_start}
use Rattle.rng_restrict.proofs.PartsFound.{part_found, part_is_found}

-- an attribute stands in the pattern
record AttributeIn (p : Pattern) : Type 0 where
  class : Class
  body : Pattern
  stands : Stands (attribute class body) p

attribute_found : (p q : Pattern) → Stands q p → is_attribute q ≡ true → AttributeIn p
attribute_found p (attribute class body) s is = record { class = class; body = body; stands = s }
attribute_found p q s is = absurd (false≢true is)

attribute_in : (p : Pattern) → has_part is_attribute p ≡ true → AttributeIn p
attribute_in p found = let r = part_found is_attribute p found in attribute_found p r.part r.stands r.passed

below_attribute : (p body q : Pattern) (c : Class) → Stands (attribute c body) p → Stands q body → is_outside_attributes q ≡ true → HasPath p
below_attribute p body (attribute d inner) c above s is = attribute_below_attribute above s
below_attribute p body (ref i) c above s is = ref_below_attribute above s
below_attribute p body q c above s is = absurd (false≢true is)

below_list : (p body q : Pattern) → Stands (listed body) p → Stands q body → is_outside_lists q ≡ true → HasPath p
below_list p body (listed inner) above s is = list_below_list above s
below_list p body (ref i) above s is = ref_below_list above s
below_list p body (attribute d inner) above s is = attribute_below_list above s
below_list p body any_text above s is = text_below_list above s
below_list p body (interleave a b) above s is = interleave_below_list above s
below_list p body q above s is = absurd (false≢true is)

below_one_or_more : (p body q : Pattern) → Stands (one_or_more body) p → Stands q body → is_attribute_group q ≡ true → HasPath p
below_one_or_more p body (group a b) above s is = let r = attribute_in (group a b) is in attribute_below_repeated_group above s r.stands
below_one_or_more p body (interleave a b) above s is = let r = attribute_in (interleave a b) is in attribute_below_repeated_interleave above s r.stands
below_one_or_more p body q above s is = absurd (false≢true is)

begun : (p q : Pattern) → Stands q p → begins_path q ≡ true → HasPath p
begun p (attribute c body) s is = let r = part_found is_outside_attributes body is in below_attribute p body r.part c s r.stands r.passed
begun p (one_or_more body) s is = let r = part_found is_attribute_group body is in below_one_or_more p body r.part s r.stands r.passed
begun p (listed body) s is = let r = part_found is_outside_lists body is in below_list p body r.part s r.stands r.passed
begun p q s is = absurd (false≢true is)

pub path_found : (p : Pattern) → has_part begins_path p ≡ true → HasPath p
path_found p found = let r = part_found begins_path p found in begun p r.part r.stands r.passed

pub path_is_found : (p : Pattern) → HasPath p → has_part begins_path p ≡ true
path_is_found p (attribute_below_attribute above s) = part_is_found begins_path above (part_is_found is_outside_attributes s refl)
path_is_found p (ref_below_attribute above s) = part_is_found begins_path above (part_is_found is_outside_attributes s refl)
path_is_found p (attribute_below_repeated_group above s t) = part_is_found begins_path above (part_is_found is_attribute_group s (part_is_found is_attribute t refl))
path_is_found p (attribute_below_repeated_interleave above s t) = part_is_found begins_path above (part_is_found is_attribute_group s (part_is_found is_attribute t refl))
path_is_found p (list_below_list above s) = part_is_found begins_path above (part_is_found is_outside_lists s refl)
path_is_found p (ref_below_list above s) = part_is_found begins_path above (part_is_found is_outside_lists s refl)
path_is_found p (attribute_below_list above s) = part_is_found begins_path above (part_is_found is_outside_lists s refl)
path_is_found p (text_below_list above s) = part_is_found begins_path above (part_is_found is_outside_lists s refl)
path_is_found p (interleave_below_list above s) = part_is_found begins_path above (part_is_found is_outside_lists s refl)

in_start : (p q : Pattern) → Stands q p → is_outside_start q ≡ true → HasStartPath p
in_start p not_allowed s is = absurd (false≢true is)
in_start p (choice a b) s is = absurd (false≢true is)
in_start p (ref i) s is = absurd (false≢true is)
in_start p empty s is = empty_in_start s
in_start p any_text s is = text_in_start s
in_start p (typed type excepts) s is = data_in_start s
in_start p (literal type text) s is = value_in_start s
in_start p (listed body) s is = list_in_start s
in_start p (attribute c body) s is = attribute_in_start s
in_start p (one_or_more body) s is = one_or_more_in_start s
in_start p (group a b) s is = group_in_start s
in_start p (interleave a b) s is = interleave_in_start s

pub start_path_found : (p : Pattern) → has_part is_outside_start p ≡ true → HasStartPath p
start_path_found p found = let r = part_found is_outside_start p found in in_start p r.part r.stands r.passed

pub start_path_is_found : (p : Pattern) → HasStartPath p → has_part is_outside_start p ≡ true
start_path_is_found p (attribute_in_start s) = part_is_found is_outside_start s refl
start_path_is_found p (data_in_start s) = part_is_found is_outside_start s refl
start_path_is_found p (value_in_start s) = part_is_found is_outside_start s refl
start_path_is_found p (text_in_start s) = part_is_found is_outside_start s refl
start_path_is_found p (list_in_start s) = part_is_found is_outside_start s refl
start_path_is_found p (group_in_start s) = part_is_found is_outside_start s refl
start_path_is_found p (interleave_in_start s) = part_is_found is_outside_start s refl
start_path_is_found p (one_or_more_in_start s) = part_is_found is_outside_start s refl
start_path_is_found p (empty_in_start s) = part_is_found is_outside_start s refl
