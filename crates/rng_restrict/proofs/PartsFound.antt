-- The test finds a pattern that stands in another.
use Rattle.std.specs.Prelude.{◌≡◌, Bool, true, ◌||◌}
use Rattle.std.proofs.Common.{inl, inr}
use Rattle.std.proofs.lemmas.Bool.{or_left, or_right, or_cases}
use Rattle.rng_core.specs.Patterns.{Pattern, not_allowed, empty, any_text, typed, literal, listed, attribute, ref, one_or_more, choice, group, interleave}
use Rattle.rng_restrict.specs.Standing.{Stands, itself, in_list, in_attribute, in_one_or_more, in_first_choice, in_second_choice, in_first_of_group, in_second_of_group, in_first_of_interleave, in_second_of_interleave}
use Rattle.rng_restrict.specs.Finding.{has_part}

-- a pattern that passes the test and stands in the pattern
pub record Part (test : Pattern → Bool) (p : Pattern) : Type 0 where
  pub part : Pattern
  pub stands : Stands part p
  pub passed : test part ≡ true

of_one : (test : Pattern → Bool) (whole p : Pattern) → ((x : Pattern) → Stands x p → Stands x whole) → (has_part test p ≡ true → Part test p) → (test whole || has_part test p) ≡ true → Part test whole
of_one test whole p below from found = elim (or_cases (test whole) (has_part test p) found) [
  | inl this ↦ record { part = whole; stands = itself; passed = this }
  | inr more ↦ let r = from more in record { part = r.part; stands = below r.part r.stands; passed = r.passed }
]

of_two : (test : Pattern → Bool) (whole p q : Pattern) → ((x : Pattern) → Stands x p → Stands x whole) → ((x : Pattern) → Stands x q → Stands x whole) → (has_part test p ≡ true → Part test p) → (has_part test q ≡ true → Part test q) → (test whole || (has_part test p || has_part test q)) ≡ true → Part test whole
of_two test whole p q first second from_p from_q found = elim (or_cases (test whole) (has_part test p || has_part test q) found) [
  | inl this ↦ record { part = whole; stands = itself; passed = this }
  | inr more ↦ elim (or_cases (has_part test p) (has_part test q) more) [
    | inl in_p ↦ let r = from_p in_p in record { part = r.part; stands = first r.part r.stands; passed = r.passed }
    | inr in_q ↦ let r = from_q in_q in record { part = r.part; stands = second r.part r.stands; passed = r.passed }
  ]
]

pub part_found : (test : Pattern → Bool) (p : Pattern) → has_part test p ≡ true → Part test p
part_found test not_allowed found = record { part = not_allowed; stands = itself; passed = found }
part_found test empty found = record { part = empty; stands = itself; passed = found }
part_found test any_text found = record { part = any_text; stands = itself; passed = found }
part_found test (typed type excepts) found = record { part = typed type excepts; stands = itself; passed = found }
part_found test (literal type text) found = record { part = literal type text; stands = itself; passed = found }
part_found test (listed p) found = of_one test (listed p) p (λ x s. in_list s) (part_found test p) found
part_found test (attribute class p) found = of_one test (attribute class p) p (λ x s. in_attribute s) (part_found test p) found
part_found test (ref i) found = record { part = ref i; stands = itself; passed = found }
part_found test (one_or_more p) found = of_one test (one_or_more p) p (λ x s. in_one_or_more s) (part_found test p) found
part_found test (choice p q) found = of_two test (choice p q) p q (λ x s. in_first_choice s) (λ x s. in_second_choice s) (part_found test p) (part_found test q) found
part_found test (group p q) found = of_two test (group p q) p q (λ x s. in_first_of_group s) (λ x s. in_second_of_group s) (part_found test p) (part_found test q) found
part_found test (interleave p q) found = of_two test (interleave p q) p q (λ x s. in_first_of_interleave s) (λ x s. in_second_of_interleave s) (part_found test p) (part_found test q) found

found_itself : (test : Pattern → Bool) (p : Pattern) → test p ≡ true → has_part test p ≡ true
found_itself test not_allowed passed = passed
found_itself test empty passed = passed
found_itself test any_text passed = passed
found_itself test (typed type excepts) passed = passed
found_itself test (literal type text) passed = passed
found_itself test (listed p) passed = or_left _ _ passed
found_itself test (attribute class p) passed = or_left _ _ passed
found_itself test (ref i) passed = passed
found_itself test (one_or_more p) passed = or_left _ _ passed
found_itself test (choice p q) passed = or_left _ _ passed
found_itself test (group p q) passed = or_left _ _ passed
found_itself test (interleave p q) passed = or_left _ _ passed

pub part_is_found : (test : Pattern → Bool) {q p : Pattern} → Stands q p → test q ≡ true → has_part test p ≡ true
part_is_found test {q = q} itself passed = found_itself test q passed
part_is_found test (in_list {p = p} s) passed = or_right (test (listed p)) _ (part_is_found test s passed)
part_is_found test (in_attribute {class = class} {p = p} s) passed = or_right (test (attribute class p)) _ (part_is_found test s passed)
part_is_found test (in_one_or_more {p = p} s) passed = or_right (test (one_or_more p)) _ (part_is_found test s passed)
part_is_found test (in_first_choice {p = p} {r = r} s) passed = or_right (test (choice p r)) _ (or_left _ _ (part_is_found test s passed))
part_is_found test (in_second_choice {p = p} {r = r} s) passed = or_right (test (choice p r)) _ (or_right (has_part test p) _ (part_is_found test s passed))
part_is_found test (in_first_of_group {p = p} {r = r} s) passed = or_right (test (group p r)) _ (or_left _ _ (part_is_found test s passed))
part_is_found test (in_second_of_group {p = p} {r = r} s) passed = or_right (test (group p r)) _ (or_right (has_part test p) _ (part_is_found test s passed))
part_is_found test (in_first_of_interleave {p = p} {r = r} s) passed = or_right (test (interleave p r)) _ (or_left _ _ (part_is_found test s passed))
part_is_found test (in_second_of_interleave {p = p} {r = r} s) passed = or_right (test (interleave p r)) _ (or_right (has_part test p) _ (part_is_found test s passed))
