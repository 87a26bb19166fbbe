-- Small schemas that break a restriction, and some that don't.
use Rattle.std.specs.Prelude.{◌≡◌, ℕ, List, [], ◌∷◌, codes, slice_get, Some}
use Rattle.std.proofs.Common.{refl, ap, inr, subst, sym, ◌∙◌}
use Rattle.nx_base.specs.declared.name.Name.{Name}
use Rattle.rng_core.specs.Names.{Class, any_name, the_name}
use Rattle.rng_core.specs.Patterns.{Pattern, Definition, empty, any_text, listed, attribute, ref, interleave}
use Rattle.rng_restrict.specs.Standing.{Stands, itself, in_attribute, in_first_of_interleave, in_second_of_interleave, once_itself, Occurs}
use Rattle.rng_restrict.specs.Reaching.{IsReached, from_start, from_content, in_start, in_content}
use Rattle.rng_restrict.specs.Paths.{BreaksPath, ref_below_list}
use Rattle.rng_restrict.specs.Attributes.{HasWildcardOnce, BreaksWildcardOnce, wildcard_once, any_name_stands}
use Rattle.rng_restrict.specs.Interleaves.{HasTextTwice, text_twice}

abbrev a_name : Name
a_name = record { ns = []; local = codes "a" }

abbrev b_name : Name
b_name = record { ns = []; local = codes "b" }

abbrev element_named : Name → Pattern → Definition
element_named name content = record { class = the_name name; content = content }

-- element a { list { element b { empty } } } has the path list//ref
abbrev list_of_element : List Definition
list_of_element = element_named a_name (listed (ref 1)) ∷ element_named b_name empty ∷ []

pub ref_in_list : BreaksPath (ref 0) list_of_element
ref_in_list = inr (in_content (from_start itself refl) (ref_below_list itself itself))

-- element a { attribute * { text } } has a wildcard once
abbrev any_attribute : Pattern
any_attribute = attribute any_name any_text

pub wildcard_in_a : BreaksWildcardOnce (ref 0) (element_named a_name any_attribute ∷ [])
wildcard_in_a = in_content (from_start itself refl) (wildcard_once once_itself any_name_stands)

-- but element a { empty } hasn't, though element b, which nothing refers to, has
abbrev unreached : List Definition
unreached = element_named a_name empty ∷ element_named b_name any_attribute ∷ []

only_ref : {i : ℕ} → Stands (ref i) (ref 0) → i ≡ 0
only_ref itself = refl

first_read : (i : ℕ) (d : Definition) → i ≡ 0 → slice_get unreached i ≡ Some d → d ≡ element_named a_name empty
first_read i d is there = let found : slice_get unreached 0 ≡ Some d = ap (slice_get unreached) (sym is) ∙ there in cc

only_first : {d : Definition} → IsReached (ref 0) unreached d → d ≡ element_named a_name empty
only_first (from_start {i = i} {d = d} s there) = first_read i d (only_ref s) there
only_first (from_content {i = i} {d = d} {e = e} r s there) =
    let P : Definition → Type 0 = λ x. Stands (ref i) x.content in
    elim (subst P (only_first r) s) [ ]

no_wildcard_in_empty : HasWildcardOnce empty → ⊥
no_wildcard_in_empty (wildcard_once s w) = elim s [ ]

no_wildcard_in_ref : {i : ℕ} → HasWildcardOnce (ref i) → ⊥
no_wildcard_in_ref (wildcard_once s w) = elim s [ ]

pub wildcard_not_reached : BreaksWildcardOnce (ref 0) unreached → ⊥
wildcard_not_reached (in_start fault) = no_wildcard_in_ref fault
wildcard_not_reached (in_content {d = d} r fault) =
    let P : Definition → Type 0 = λ x. HasWildcardOnce x.content in
    no_wildcard_in_empty (subst P (only_first r) fault)

-- text & attribute a { text } hasn't text twice
no_text_in_attribute : {c : Class} {p : Pattern} → Occurs any_text (attribute c p) → ⊥
no_text_in_attribute o = elim o [ ]

no_interleave_in_text : {p q : Pattern} → Stands (interleave p q) any_text → ⊥
no_interleave_in_text s = elim s [ ]

pub text_beside_attribute : HasTextTwice (interleave any_text (attribute (the_name a_name) any_text)) → ⊥
text_beside_attribute (text_twice itself m n) = no_text_in_attribute n
text_beside_attribute (text_twice (in_first_of_interleave s) m n) = no_interleave_in_text s
text_beside_attribute (text_twice (in_second_of_interleave (in_attribute s)) m n) = no_interleave_in_text s
