-- Small examples of what patterns match and what they don't.
use Rattle.std.specs.Prelude.{◌≡◌, ℕ, List, [], ◌∷◌, codes, IsTrue}
use Rattle.std.proofs.Common.{refl, subst, sym, ap}
use Rattle.std.proofs.lemmas.Bool.{false≢true}
use Rattle.nx_base.specs.Characters.{is_char, is_space, is_name_start, is_name_char}
use lib.Utf8.{encode}
use Rattle.std.specs.Str.{chars, is_utf8, bytes_eq}
use Rattle.nx_base.specs.declared.name.Name.{Name}
use Rattle.rng_types.specs.declared.datatype.Datatype.{Datatype}
use Rattle.rng_types.specs.declared.datatype.Except.TheVariants.{BuiltinToken}
use Rattle.rng_types.specs.declared.kind.Whitespace.TheVariants.{Preserve, Collapse}
use Rattle.rng_types.specs.declared.kind.Word.TheVariants.{Boolean}
use Rattle.rng_types.specs.declared.kind.Form.TheVariants.{Any, One}
use Rattle.rng_core.specs.Names.{Class, the_name, has_name, has_attribute_name}
use Rattle.rng_core.specs.Patterns.{Pattern, Definition, not_allowed, empty, any_text, typed, literal, listed, attribute, ref, one_or_more, group, interleave}
use Rattle.nx_base.specs.Trees.{Attribute, Children, nil, string, element}
use Rattle.rng_core.specs.Matching.{Matches, no_attribute, to_first, to_second, then_second, string_of_first, element_of_first, no_child, string_to_first, element_to_first, element_to_second, AreStrings, no_string, one_string, as_they_stand, with_blanks_left_out, as_one_empty_string, by_group, by_empty, by_text, by_one, by_more, by_interleave, by_element, by_attribute, by_blank_attribute, by_data, by_value, by_list}

abbrev pub in_no_namespace : List ℕ → Name
in_no_namespace local = record { ns = []; local = local }

abbrev pub a_name : Name
a_name = in_no_namespace (codes "a")

abbrev pub b_name : Name
b_name = in_no_namespace (codes "b")

-- a definition of an element with one name
abbrev pub element_named : Name → Pattern → Definition
element_named name content = record { class = the_name name; content = content }

-- element a { text }, element b { empty }
abbrev pub two_elements : List Definition
two_elements = element_named a_name any_text ∷ element_named b_name empty ∷ []

-- <a>x</a>, <b/>, and what follows them
abbrev pub a_then : Children → Children
a_then rest = element a_name [] (string (codes "x") nil) rest

abbrev b_then : Children → Children
b_then rest = element b_name [] nil rest

pub a_is_name : IsTrue (has_name (the_name a_name) a_name)
unfolding is_char is_name_start is_name_char chars is_utf8 encode
a_is_name = refl

b_is_name : IsTrue (has_name (the_name b_name) b_name)
unfolding is_char is_name_start is_name_char chars is_utf8 encode
b_is_name = refl

a_is_attribute_name : IsTrue (has_attribute_name (the_name a_name) a_name)
unfolding is_char is_name_start is_name_char chars is_utf8 encode
a_is_attribute_name = refl

b_is_attribute_name : IsTrue (has_attribute_name (the_name b_name) b_name)
unfolding is_char is_name_start is_name_char chars is_utf8 encode
b_is_attribute_name = refl

pub a_matches : Matches two_elements (ref 0) [] (a_then nil)
a_matches = by_element refl a_is_name as_they_stand (by_text (one_string no_string))

b_matches : Matches two_elements (ref 1) [] (b_then nil)
b_matches = by_element refl b_is_name as_they_stand by_empty

-- a, b matches <a>x</a><b/>
pub group_in_order : Matches two_elements (group (ref 0) (ref 1)) [] (a_then (b_then nil))
group_in_order = by_group no_attribute (element_of_first then_second) a_matches b_matches

-- and not <b/><a>x</a>: a reference to the first element matches no other
first_is_a : {x : List Attribute} {k rest : Children} → Matches two_elements (ref 0) x (element b_name [] k rest) → ⊥
unfolding is_char is_name_start is_name_char chars is_utf8 encode
first_is_a (by_element {d = d} found named w m) =
    let same : d ≡ element_named a_name any_text = cc in
    let P : Definition → Type 0 = λ e. IsTrue (has_name e.class b_name) in
    false≢true (subst P same named)

no_reference_to_nothing : {defs : List Definition} {i : ℕ} {x : List Attribute} → Matches defs (ref i) x nil → ⊥
no_reference_to_nothing m = elim m [ ]

pub group_out_of_order : Matches two_elements (group (ref 0) (ref 1)) [] (b_then (a_then nil)) → ⊥
group_out_of_order (by_group s then_second m n) = no_reference_to_nothing m
group_out_of_order (by_group s (element_of_first o) m n) = first_is_a m

-- a & b matches both orders
pub interleave_in_order : Matches two_elements (interleave (ref 0) (ref 1)) [] (a_then (b_then nil))
interleave_in_order = by_interleave no_attribute (element_to_first (element_to_second no_child)) a_matches b_matches

pub interleave_out_of_order : Matches two_elements (interleave (ref 0) (ref 1)) [] (b_then (a_then nil))
interleave_out_of_order = by_interleave no_attribute (element_to_second (element_to_first no_child)) a_matches b_matches

-- mixed { a, b } matches strings around and between the elements
pub mixed_content : Matches two_elements (interleave any_text (group (ref 0) (ref 1))) [] (string (codes "x") (a_then (string (codes "y") (b_then nil))))
mixed_content =
    by_interleave no_attribute (string_to_first (element_to_second (string_to_first (element_to_second no_child))))
    (by_text (one_string (one_string no_string)))
    (by_group no_attribute (element_of_first then_second) a_matches b_matches)

-- attribute a { text }, attribute b { text } matches b='2' a='1': attributes are a set
abbrev a_is_1 : Attribute
a_is_1 = record { name = a_name; value = codes "1" }

abbrev b_is_2 : Attribute
b_is_2 = record { name = b_name; value = codes "2" }

abbrev pub both_attributes : Pattern
both_attributes = group (attribute (the_name a_name) any_text) (attribute (the_name b_name) any_text)

a_attribute : Matches [] (attribute (the_name a_name) any_text) (a_is_1 ∷ []) nil
a_attribute = by_attribute a_is_attribute_name (by_text (one_string no_string))

b_attribute : Matches [] (attribute (the_name b_name) any_text) (b_is_2 ∷ []) nil
b_attribute = by_attribute b_is_attribute_name (by_text (one_string no_string))

pub attributes_in_any_order : Matches [] both_attributes (b_is_2 ∷ a_is_1 ∷ []) nil
attributes_in_any_order = by_group (to_second (to_first no_attribute)) then_second a_attribute b_attribute

-- and not a='1' alone
no_attribute_from_none : {defs : List Definition} {c : Class} {p : Pattern} {k : Children} → Matches defs (attribute c p) [] k → ⊥
no_attribute_from_none m = elim m [ ]

pub missing_attribute : Matches [] both_attributes (a_is_1 ∷ []) nil → ⊥
missing_attribute (by_group (to_first no_attribute) o m n) = no_attribute_from_none n
missing_attribute (by_group (to_second no_attribute) o m n) = no_attribute_from_none m

-- element a { b, b } with white space around its children: they match without the blank strings
abbrev pub space_text : List ℕ
space_text = 32 ∷ 10 ∷ []

abbrev b_in_a : List Definition
b_in_a = element_named a_name (group (ref 1) (ref 1)) ∷ element_named b_name empty ∷ []

b_alone : Matches b_in_a (ref 1) [] (b_then nil)
b_alone = by_element refl b_is_name as_they_stand by_empty

pub blanks_between_elements : Matches b_in_a (ref 0) [] (element a_name [] (string space_text (b_then (string space_text (b_then nil)))) nil)
unfolding is_space
blanks_between_elements =
    by_element refl a_is_name with_blanks_left_out
    (by_group no_attribute (element_of_first then_second) b_alone b_alone)

-- element a { string "" } matches <a/>, whose children may be seen as one empty string, and not <a> </a>
abbrev pub string_type : Datatype
string_type = record { form = Any Preserve; facets = [] }

abbrev pub token_type : Datatype
token_type = record { form = Any Collapse; facets = [] }

abbrev boolean_type : Datatype
boolean_type = record { form = One Boolean; facets = [] }

abbrev pub empty_string_in_a : List Definition
empty_string_in_a = element_named a_name (literal string_type []) ∷ []

pub empty_string_for_no_children : Matches empty_string_in_a (ref 0) [] (element a_name [] nil nil)
empty_string_for_no_children =
    by_element refl a_is_name as_one_empty_string (by_value (record { form = refl; facets = refl }) refl)

-- attribute a { empty } matches a='  ', since a blank value may be seen as nothing
pub blank_attribute : Matches [] (attribute (the_name a_name) empty) (record { name = a_name; value = 32 ∷ 32 ∷ [] } ∷ []) nil
unfolding is_space
blank_attribute = by_blank_attribute a_is_attribute_name refl by_empty

-- list { token "x", token "y" } matches one string with these words
pub two_words : Matches [] (listed (group (literal token_type (codes "x")) (literal token_type (codes "y")))) [] (string (codes " x  y ") nil)
unfolding is_space
two_words =
    by_list (by_group no_attribute (string_of_first then_second)
    (by_value (record { form = refl; facets = refl }) refl) (by_value (record { form = refl; facets = refl }) refl))

-- xsd:boolean "true" matches 1, and not 0
pub same_truth : Matches [] (literal boolean_type (codes "true")) [] (string (codes "1") nil)
unfolding is_space
same_truth = by_value (record { form = refl; facets = refl }) refl

pub other_truth : Matches [] (literal boolean_type (codes "true")) [] (string (codes "0") nil) → ⊥
unfolding is_space
other_truth (by_value accepted same) = false≢true same

-- token - token "x" matches y, and not x between spaces
abbrev token_but_x : Pattern
token_but_x = typed token_type (BuiltinToken (codes "x") ∷ [])

pub not_excepted : Matches [] token_but_x [] (string (codes "y") nil)
unfolding is_space
not_excepted = by_data (record { form = refl; facets = refl }) ((λ same. false≢true (sym (ap (λ (t : List ℕ). bytes_eq t (codes "y")) same))), tt)

pub excepted : Matches [] token_but_x [] (string (codes " x ") nil) → ⊥
unfolding is_space
excepted (by_data accepted differs) = differs.0 refl

-- (a, b)+ matches a, b, a, b, and not nothing
pub twice : Matches two_elements (one_or_more (group (ref 0) (ref 1))) [] (a_then (b_then (a_then (b_then nil))))
twice = by_more no_attribute (element_of_first (element_of_first then_second)) group_in_order (by_one group_in_order)

-- notAllowed matches nothing, empty no string, text no element
pub never : {defs : List Definition} {x : List Attribute} {c : Children} → Matches defs not_allowed x c → ⊥
never m = elim m [ ]

pub empty_has_no_string : {defs : List Definition} {x : List Attribute} {t : List ℕ} {c : Children} → Matches defs empty x (string t c) → ⊥
empty_has_no_string m = elim m [ ]

no_element_among_strings : {n : Name} {x : List Attribute} {k c : Children} → AreStrings (element n x k c) → ⊥
no_element_among_strings s = elim s [ ]

pub text_has_no_element : {defs : List Definition} {n : Name} {x y : List Attribute} {k c : Children} → Matches defs any_text x (element n y k c) → ⊥
text_has_no_element (by_text s) = no_element_among_strings s
