-- Text in both sides of an interleave is found.
use Rattle.std.specs.Prelude.{◌≡◌, true}
use Rattle.std.proofs.Common.{refl, inl, inr}
use Rattle.std.proofs.lemmas.Bool.{false≢true, or_left, or_right, or_cases, and_parts, and_from}
use Rattle.rng_core.specs.Patterns.{Pattern, not_allowed, empty, any_text, typed, literal, listed, attribute, ref, one_or_more, choice, group, interleave}
use Rattle.rng_restrict.specs.Standing.{Stands, Occurs, as_itself, below_one_or_more, below_first_choice, below_second_choice, below_first_of_group, below_second_of_group, below_first_of_interleave, below_second_of_interleave}
use Rattle.rng_restrict.specs.Interleaves.{HasTextTwice, text_twice}
use Rattle.rng_restrict.specs.Finding.{has_part, text_occurs, is_text_twice}
use Rattle.rng_restrict.proofs.PartsFound.{part_found, part_is_found}

text_found : (p : Pattern) → text_occurs p ≡ true → Occurs any_text p
text_found not_allowed found = absurd (false≢true found)
text_found empty found = absurd (false≢true found)
text_found any_text found = as_itself
text_found (typed type excepts) found = absurd (false≢true found)
text_found (literal type text) found = absurd (false≢true found)
text_found (listed p) found = absurd (false≢true found)
text_found (attribute c p) found = absurd (false≢true found)
text_found (ref i) found = absurd (false≢true found)
text_found (one_or_more p) found = below_one_or_more (text_found p found)
text_found (choice p q) found = elim (or_cases (text_occurs p) (text_occurs q) found) [ inl first ↦ below_first_choice (text_found p first) | inr second ↦ below_second_choice (text_found q second) ]
text_found (group p q) found = elim (or_cases (text_occurs p) (text_occurs q) found) [ inl first ↦ below_first_of_group (text_found p first) | inr second ↦ below_second_of_group (text_found q second) ]
text_found (interleave p q) found = elim (or_cases (text_occurs p) (text_occurs q) found) [ inl first ↦ below_first_of_interleave (text_found p first) | inr second ↦ below_second_of_interleave (text_found q second) ]

text_is_found : {p : Pattern} → Occurs any_text p → text_occurs p ≡ true
text_is_found as_itself = refl
text_is_found (below_one_or_more o) = text_is_found o
text_is_found (below_first_choice o) = or_left _ _ (text_is_found o)
text_is_found (below_second_choice {p = p} o) = or_right (text_occurs p) _ (text_is_found o)
text_is_found (below_first_of_group o) = or_left _ _ (text_is_found o)
text_is_found (below_second_of_group {p = p} o) = or_right (text_occurs p) _ (text_is_found o)
text_is_found (below_first_of_interleave o) = or_left _ _ (text_is_found o)
text_is_found (below_second_of_interleave {p = p} o) = or_right (text_occurs p) _ (text_is_found o)

twice_in : (p q : Pattern) → Stands q p → is_text_twice q ≡ true → HasTextTwice p
twice_in p (interleave a b) s is =
    let sides = and_parts (text_occurs a) (text_occurs b) is in
    text_twice s (text_found a sides.0) (text_found b sides.1)
twice_in p q s is = absurd (false≢true is)

pub text_twice_found : (p : Pattern) → has_part is_text_twice p ≡ true → HasTextTwice p
text_twice_found p found = let r = part_found is_text_twice p found in twice_in p r.part r.stands r.passed

pub text_twice_is_found : (p : Pattern) → HasTextTwice p → has_part is_text_twice p ≡ true
text_twice_is_found p (text_twice s m n) = part_is_found is_text_twice s (and_from _ _ (text_is_found m) (text_is_found n))
