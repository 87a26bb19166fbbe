-- Tests that find the faults, one pattern at a time.
use Rattle.std.specs.Prelude.{◌≡◌, ℕ, Bool, true, false, not, ◌||◌, ◌&&◌, ◌==◌, nat_lt, if◌then◌else◌, List, [], ◌∷◌}
use Rattle.std.specs.Prelude.{◌++◌, Option, Some, None, slice_get, slice_range, drop, length, get_or}
use Rattle.std.specs.List.{list_any, sum_by}
use Rattle.rng_core.specs.Names.{Class, any_name, ns_name, the_name, either, without}
use Rattle.rng_core.specs.declared.name_class.Bearer.{Bearer}
use Rattle.rng_core.specs.declared.name_class.Bearer.TheVariants.{Element, Attribute}
use Rattle.rng_core.specs.Unmentioned.{borne, overlaps}
use Rattle.rng_core.specs.Patterns.{Pattern, Definition, not_allowed, empty, any_text, typed, literal, listed}
use Rattle.rng_core.specs.Patterns.{attribute, ref, one_or_more, choice, group, interleave}
use Rattle.rng_restrict.specs.declared.content.Content.{Content}
use Rattle.rng_restrict.specs.declared.content.Content.TheVariants.{Empty, Complex, Simple}
use Rattle.rng_restrict.specs.declared.path.Parts.{Parts}
use Rattle.rng_restrict.specs.declared.text.Texts.{Texts}
use Rattle.rng_restrict.specs.Contents.{greater}
use Rattle.rng_restrict.specs.Reaching.{IsReached}

-- a pattern that passes the test stands in the pattern
abbrev pub has_part : (Pattern → Bool) → Pattern → Bool
has_part test not_allowed = test not_allowed
has_part test empty = test empty
has_part test any_text = test any_text
has_part test (typed type excepts) = test (typed type excepts)
has_part test (literal type text) = test (literal type text)
has_part test (listed p) = test (listed p) || has_part test p
has_part test (attribute class p) = test (attribute class p) || has_part test p
has_part test (ref i) = test (ref i)
has_part test (one_or_more p) = test (one_or_more p) || has_part test p
has_part test (choice p q) = test (choice p q) || (has_part test p || has_part test q)
has_part test (group p q) = test (group p q) || (has_part test p || has_part test q)
has_part test (interleave p q) = test (interleave p q) || (has_part test p || has_part test q)

-- Paths

abbrev pub is_attribute : Pattern → Bool
is_attribute (attribute class p) = true
is_attribute p = false

-- what mustn't stand below an attribute
abbrev pub is_outside_attributes : Pattern → Bool
is_outside_attributes (attribute class p) = true
is_outside_attributes (ref i) = true
is_outside_attributes p = false

-- what mustn't stand below a list
abbrev pub is_outside_lists : Pattern → Bool
is_outside_lists (listed p) = true
is_outside_lists (ref i) = true
is_outside_lists (attribute class p) = true
is_outside_lists any_text = true
is_outside_lists (interleave p q) = true
is_outside_lists p = false

-- what mustn't stand below a oneOrMore: a group or an interleave in which an attribute stands
abbrev pub is_attribute_group : Pattern → Bool
is_attribute_group (group p q) = has_part is_attribute p || has_part is_attribute q
is_attribute_group (interleave p q) = has_part is_attribute p || has_part is_attribute q
is_attribute_group p = false

-- where a prohibited path begins
abbrev pub begins_path : Pattern → Bool
begins_path (attribute class p) = has_part is_outside_attributes p
begins_path (one_or_more p) = has_part is_attribute_group p
begins_path (listed p) = has_part is_outside_lists p
begins_path p = false

-- which of these stand in a pattern
abbrev pub parts_of : Pattern → Parts
parts_of p = record {
  attribute = has_part is_attribute p;
  outside_attributes = has_part is_outside_attributes p;
  outside_lists = has_part is_outside_lists p;
  attribute_group = has_part is_attribute_group p;
  path = has_part begins_path p;
}

-- which of them stand in either of two patterns
abbrev pub parts_of_either : Parts → Parts → Parts
parts_of_either a b = record {
  attribute = a.attribute || b.attribute;
  outside_attributes = a.outside_attributes || b.outside_attributes;
  outside_lists = a.outside_lists || b.outside_lists;
  attribute_group = a.attribute_group || b.attribute_group;
  path = a.path || b.path;
}

-- what mustn't stand in the start
abbrev pub is_outside_start : Pattern → Bool
is_outside_start not_allowed = false
is_outside_start (choice p q) = false
is_outside_start (ref i) = false
is_outside_start p = true

-- Content types

abbrev pub are_groupable : Content → Content → Bool
are_groupable Empty t = true
are_groupable Complex Empty = true
are_groupable Complex Complex = true
are_groupable Complex Simple = false
are_groupable Simple Empty = true
are_groupable Simple Complex = false
are_groupable Simple Simple = false

-- the type of a group of two, and of a choice of two
abbrev pub grouped : Option Content → Option Content → Option Content
grouped None t = None
grouped (Some s) None = None
grouped (Some s) (Some t) = if are_groupable s t then Some (greater s t) else None

abbrev pub chosen : Option Content → Option Content → Option Content
chosen None t = None
chosen (Some s) None = None
chosen (Some s) (Some t) = Some (greater s t)

abbrev pub emptied : Option Content → Option Content
emptied None = None
emptied (Some t) = Some Empty

abbrev pub content_of : Pattern → Option Content
content_of not_allowed = None
content_of empty = Some Empty
content_of any_text = Some Complex
content_of (typed type excepts) = Some Simple
content_of (literal type text) = Some Simple
content_of (listed p) = Some Simple
content_of (attribute class p) = emptied (content_of p)
content_of (ref i) = Some Complex
content_of (one_or_more p) = grouped (content_of p) (content_of p)
content_of (choice p q) = chosen (content_of p) (content_of q)
content_of (group p q) = grouped (content_of p) (content_of q)
content_of (interleave p q) = grouped (content_of p) (content_of q)

abbrev pub has_no_type : Option Content → Bool
has_no_type None = true
has_no_type (Some t) = false

abbrev pub is_mixture : Pattern → Bool
is_mixture not_allowed = false
is_mixture p = has_no_type (content_of p)

-- Overlaps

unfoldable pub share_name : Bearer → Class → Class → Bool
share_name bearer c d = overlaps (borne bearer c) d

unfoldable pub any_share : Bearer → List Class → List Class → Bool
any_share bearer cs ds = list_any (λ c. list_any (λ d. share_name bearer c d) ds) cs

-- the same of attributes whose classes stand from a place to another, and those behind
unfoldable pub sides_share : ℕ → ℕ → List Class → Bool
sides_share before between cs = any_share Attribute (slice_range cs before between) (drop between cs)

-- the classes of the attributes that occur in a pattern
abbrev pub attribute_classes : Pattern → List Class
attribute_classes not_allowed = []
attribute_classes empty = []
attribute_classes any_text = []
attribute_classes (typed type excepts) = []
attribute_classes (literal type text) = []
attribute_classes (listed p) = []
attribute_classes (attribute class p) = class ∷ []
attribute_classes (ref i) = []
attribute_classes (one_or_more p) = attribute_classes p
attribute_classes (choice p q) = attribute_classes p ++ attribute_classes q
attribute_classes (group p q) = attribute_classes p ++ attribute_classes q
attribute_classes (interleave p q) = attribute_classes p ++ attribute_classes q

abbrev pub is_attribute_overlap : Pattern → Bool
is_attribute_overlap (group p q) = any_share Attribute (attribute_classes p) (attribute_classes q)
is_attribute_overlap (interleave p q) = any_share Attribute (attribute_classes p) (attribute_classes q)
is_attribute_overlap p = false

-- the class of the definition of that number
abbrev pub class_at : Option Definition → List Class
class_at None = []
class_at (Some d) = d.class ∷ []

-- the classes of the elements that references name which occur in a pattern
abbrev pub element_classes : List Definition → Pattern → List Class
element_classes defs not_allowed = []
element_classes defs empty = []
element_classes defs any_text = []
element_classes defs (typed type excepts) = []
element_classes defs (literal type text) = []
element_classes defs (listed p) = []
element_classes defs (attribute class p) = []
element_classes defs (ref i) = class_at (slice_get defs i)
element_classes defs (one_or_more p) = element_classes defs p
element_classes defs (choice p q) = element_classes defs p ++ element_classes defs q
element_classes defs (group p q) = element_classes defs p ++ element_classes defs q
element_classes defs (interleave p q) = element_classes defs p ++ element_classes defs q

-- the classes of the definitions of these numbers
abbrev pub classes_at : List Definition → List ℕ → List Class
classes_at defs [] = []
classes_at defs (i ∷ numbers) = class_at (slice_get defs i) ++ classes_at defs numbers

-- whatever the test is, some of one list pass it exactly where some of the other do
unfoldable pub PassAlike : {A : Type 0} → List A → List A → Type 0
PassAlike {A = A} xs ys = (test : A → Bool) → list_any test xs ≡ list_any test ys

abbrev pub is_element_overlap : List Definition → Pattern → Bool
is_element_overlap defs (interleave p q) = any_share Element (element_classes defs p) (element_classes defs q)
is_element_overlap defs p = false

-- Wildcards

abbrev pub is_wildcard : Class → Bool
is_wildcard any_name = true
is_wildcard (ns_name ns) = true
is_wildcard (the_name name) = false
is_wildcard (either c d) = is_wildcard c || is_wildcard d
is_wildcard (without c d) = is_wildcard c || is_wildcard d

abbrev pub has_wildcard_once : Pattern → Bool
has_wildcard_once not_allowed = false
has_wildcard_once empty = false
has_wildcard_once any_text = false
has_wildcard_once (typed type excepts) = false
has_wildcard_once (literal type text) = false
has_wildcard_once (listed p) = has_wildcard_once p
has_wildcard_once (attribute class p) = is_wildcard class || has_wildcard_once p
has_wildcard_once (ref i) = false
has_wildcard_once (one_or_more p) = false
has_wildcard_once (choice p q) = has_wildcard_once p || has_wildcard_once q
has_wildcard_once (group p q) = has_wildcard_once p || has_wildcard_once q
has_wildcard_once (interleave p q) = has_wildcard_once p || has_wildcard_once q

-- Texts

abbrev pub text_occurs : Pattern → Bool
text_occurs not_allowed = false
text_occurs empty = false
text_occurs any_text = true
text_occurs (typed type excepts) = false
text_occurs (literal type text) = false
text_occurs (listed p) = false
text_occurs (attribute class p) = false
text_occurs (ref i) = false
text_occurs (one_or_more p) = text_occurs p
text_occurs (choice p q) = text_occurs p || text_occurs q
text_occurs (group p q) = text_occurs p || text_occurs q
text_occurs (interleave p q) = text_occurs p || text_occurs q

abbrev pub is_text_twice : Pattern → Bool
is_text_twice (interleave p q) = text_occurs p && text_occurs q
is_text_twice p = false

abbrev pub texts_of : Pattern → Texts
texts_of p = record { occurs = text_occurs p; twice = has_part is_text_twice p }

abbrev pub texts_of_either : Texts → Texts → Texts
texts_of_either a b = record { occurs = a.occurs || b.occurs; twice = a.twice || b.twice }

-- What the start reaches

abbrev pub is_among : ℕ → List ℕ → Bool
is_among i numbers = list_any (λ m. m == i) numbers

-- a number below the count is added, unless it is there
unfoldable pub with_number : ℕ → ℕ → List ℕ → List ℕ
with_number count i found = if nat_lt i count && not (is_among i found) then found ++ i ∷ [] else found

-- and so is that of each reference in a pattern
abbrev pub with_references : ℕ → Pattern → List ℕ → List ℕ
with_references count not_allowed found = found
with_references count empty found = found
with_references count any_text found = found
with_references count (typed type excepts) found = found
with_references count (literal type text) found = found
with_references count (listed p) found = with_references count p found
with_references count (attribute class p) found = with_references count p found
with_references count (ref i) found = with_number count i found
with_references count (one_or_more p) found = with_references count p found
with_references count (choice p q) found = with_references count q (with_references count p found)
with_references count (group p q) found = with_references count q (with_references count p found)
with_references count (interleave p q) found = with_references count q (with_references count p found)

-- and that of each reference in the content of a definition, if there is one
abbrev pub with_content : ℕ → Option Definition → List ℕ → List ℕ
with_content count None found = found
with_content count (Some d) found = with_references count d.content found

-- a list of numbers, each once, as marks
pub record IsMarked (found : List ℕ) (seen : List Bool) : Type 0 where
  pub same : (i : ℕ) → get_or seen i false ≡ is_among i found
  pub counted : sum_by (λ b. if b then 1 else 0) seen ≡ length found

-- a number of the list is that of the definition
pub record HasNumber (defs : List Definition) (numbers : List ℕ) (d : Definition) : Type 0 where
  pub number : ℕ
  pub among : is_among number numbers ≡ true
  pub there : slice_get defs number ≡ Some d

-- the numbers are those of the definitions that are reached
pub record AreReached (start : Pattern) (defs : List Definition) (numbers : List ℕ) : Type 0 where
  pub only : (i : ℕ) (d : Definition) → is_among i numbers ≡ true → slice_get defs i ≡ Some d → IsReached start defs d
  pub all : (d : Definition) → IsReached start defs d → HasNumber defs numbers d

-- the test of the content of a definition, if there is one
abbrev pub passes : (Pattern → Bool) → Option Definition → Bool
passes test None = false
passes test (Some d) = test d.content

-- the content of some definition of these numbers passes the test
abbrev pub some_passes : (Pattern → Bool) → List Definition → List ℕ → Bool
some_passes test defs numbers = list_any (λ i. passes test (slice_get defs i)) numbers
