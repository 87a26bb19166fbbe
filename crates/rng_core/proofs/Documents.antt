-- Small examples of events, of valid documents, of lists and of weak matching.
use Rattle.std.specs.Prelude.{◌≡◌, ℕ, List, [], ◌∷◌, codes, IsTrue}
use Rattle.std.proofs.Common.{refl, subst}
use Rattle.std.proofs.lemmas.Bool.{false≢true}
use Rattle.std.specs.Str.{chars, is_utf8}
use lib.Utf8.{encode}
use Rattle.nx_base.specs.Characters.{is_char, is_space, is_name_start, is_name_char}
use Rattle.rng_types.specs.Spaces.{words}
use Rattle.rng_types.specs.declared.datatype.Datatype.{Datatype}
use Rattle.nx_base.specs.declared.name.Name.{Name}
use Rattle.nx_base.specs.Trees.{Attribute, Children, nil, string, element, strings, children_flat, attributes_flat, Tree, Event, Enter, Att, TagEnd, Chars, Leave, no_children, string_first, element_first, no_attributes, flat}
use Rattle.rng_core.specs.Names.{the_name, has_name}
use Rattle.rng_core.specs.Patterns.{Pattern, Definition, empty, any_text, literal, listed, ref, group}
use Rattle.rng_core.specs.Matching.{Matches, Weakly, no_string, one_string, then_second, string_of_first, as_they_stand, with_blanks_left_out, by_group, by_empty, by_text, by_element, by_value, by_list}
use Rattle.rng_core.specs.Validity.{Valid}
use Rattle.rng_core.proofs.Examples.{a_name, b_name, element_named, two_elements, a_matches, a_is_name, a_then, empty_string_in_a, string_type, token_type, space_text}

-- <a b='1'>x<b/></a>
abbrev one_of_each : Tree
one_of_each = record {
  name = a_name;
  attributes = record { name = b_name; value = codes "1" } ∷ [];
  children = string (codes "x") (element b_name [] nil nil);
}

pub events_in_order : flat one_of_each ≡
    Enter a_name ∷ Att b_name (codes "1") ∷ TagEnd ∷ Chars (codes "x") ∷ Enter b_name ∷ TagEnd ∷ Leave ∷ Leave ∷ []
events_in_order = refl

-- <a>x</a> is valid for element a { text }
abbrev a_tree : Tree
a_tree = record { name = a_name; attributes = []; children = string (codes "x") nil }

a_is_xml_name : IsTrue (has_name (the_name a_name) a_name)
a_is_xml_name = a_is_name

pub a_is_valid : Valid two_elements (ref 0) (Enter a_name ∷ TagEnd ∷ Chars (codes "x") ∷ Leave ∷ [])
unfolding is_char is_name_start is_name_char chars is_utf8 encode
a_is_valid = record {
  tree = a_tree;
  is_tree = element_first refl no_attributes (string_first no_children) no_children;
  events_are = refl;
  matched = a_matches;
}

-- and <b/> isn't
no_other_name : {n : Name} {x : List Attribute} {k : Children} → n ≡ b_name → Matches two_elements (ref 0) [] (element n x k nil) → ⊥
unfolding is_char is_name_start is_name_char chars is_utf8 encode
no_other_name {n = n} other (by_element {d = d} found named w m) =
    let same : d ≡ element_named a_name any_text = cc in
    let P : Definition → Type 0 = λ e. IsTrue (has_name e.class n) in
    let Q : Name → Type 0 = λ m. IsTrue (has_name (the_name a_name) m) in
    false≢true (subst Q other (subst P same named))

pub b_is_not_valid : Valid two_elements (ref 0) (Enter b_name ∷ TagEnd ∷ Leave ∷ []) → ⊥
b_is_not_valid v =
    let same : v.tree.name ≡ b_name = cc (v.events_are) in
    no_other_name same v.matched

-- nor is <a>x without its end
more_than_none : (k : Children) (e : Event) (after : List Event) → [] ≡ children_flat k (e ∷ after) → ⊥
more_than_none nil e after none = cc
more_than_none (string text rest) e after none = cc
more_than_none (element name attributes children rest) e after none = cc

not_left : (x : List Attribute) (k : Children) → TagEnd ∷ [] ≡ attributes_flat x (TagEnd ∷ children_flat k (Leave ∷ [])) → ⊥
not_left [] k same = let none : [] ≡ children_flat k (Leave ∷ []) = cc in more_than_none k Leave [] none
not_left (a ∷ more) k same = cc

pub open_is_not_valid : Valid two_elements (ref 0) (Enter a_name ∷ TagEnd ∷ []) → ⊥
open_is_not_valid v =
    let same : TagEnd ∷ [] ≡ attributes_flat v.tree.attributes (TagEnd ∷ children_flat v.tree.children (Leave ∷ [])) = cc (v.events_are) in
    not_left v.tree.attributes v.tree.children same

-- element a { empty } and element a { text } match <a> </a>, the one without the blank string
abbrev empty_in_a : List Definition
empty_in_a = element_named a_name empty ∷ []

pub blank_in_empty : Matches empty_in_a (ref 0) [] (element a_name [] (string space_text nil) nil)
unfolding is_space
blank_in_empty = by_element refl a_is_name with_blanks_left_out by_empty

pub blank_in_text : Matches two_elements (ref 0) [] (element a_name [] (string space_text nil) nil)
blank_in_text = by_element refl a_is_name as_they_stand (by_text (one_string no_string))

-- element a { empty } doesn't match <a>x</a>
no_string_in_empty : {defs : List Definition} {x : List Attribute} {t : List ℕ} {c : Children} → Matches defs empty x (string t c) → ⊥
no_string_in_empty m = elim m [ ]

x_seen_weakly : {defs : List Definition} {x : List Attribute} {k : Children} → Weakly (string (codes "x") nil) k → Matches defs empty x k → ⊥
unfolding is_space
x_seen_weakly as_they_stand m = no_string_in_empty m
x_seen_weakly with_blanks_left_out m = no_string_in_empty m

pub text_in_empty : Matches empty_in_a (ref 0) [] (a_then nil) → ⊥
text_in_empty (by_element {d = d} {k' = k} found named w m) =
    let same : d ≡ element_named a_name empty = cc in
    let P : Definition → Type 0 = λ e. Matches empty_in_a e.content [] k in
    x_seen_weakly w (subst P same m)

-- element a { string "" } doesn't match <a> </a>: a blank isn't the empty string, and nothing is no string
no_value_of_nothing : {defs : List Definition} {x : List Attribute} {t : Datatype} {v : List ℕ} → Matches defs (literal t v) x nil → ⊥
no_value_of_nothing m = elim m [ ]

no_blank_value : {defs : List Definition} {x : List Attribute} → Matches defs (literal string_type []) x (string space_text nil) → ⊥
no_blank_value (by_value accepted same) = cc

blank_seen_weakly : {defs : List Definition} {x : List Attribute} {k : Children} → Weakly (string space_text nil) k → Matches defs (literal string_type []) x k → ⊥
unfolding is_space
blank_seen_weakly as_they_stand m = no_blank_value m
blank_seen_weakly with_blanks_left_out m = no_value_of_nothing m

pub blank_is_not_empty_string : Matches empty_string_in_a (ref 0) [] (element a_name [] (string space_text nil) nil) → ⊥
blank_is_not_empty_string (by_element {d = d} {k' = k} found named w m) =
    let same : d ≡ element_named a_name (literal string_type []) = cc in
    let P : Definition → Type 0 = λ e. Matches empty_string_in_a e.content [] k in
    blank_seen_weakly w (subst P same m)

-- list { "x", "y" } doesn't match x alone
list_of_words : {p : Pattern} {x : List Attribute} {text : List ℕ} → Matches [] (listed p) x (string text nil) → Matches [] p [] (strings (words text))
list_of_words (by_list m) = m

two_of_one : {t : Datatype} {v w text : List ℕ} {x : List Attribute} → Matches [] (group (literal t v) (literal t w)) x (string text nil) → ⊥
two_of_one (by_group s then_second m n) = no_value_of_nothing m
two_of_one (by_group s (string_of_first then_second) m n) = no_value_of_nothing n

pub one_word_of_two : Matches [] (listed (group (literal token_type (codes "x")) (literal token_type (codes "y")))) [] (string (codes "x") nil) → ⊥
unfolding is_space
one_word_of_two m = two_of_one (list_of_words m)
