-- Patterns of the simple form in which a type still has its name: ISO/IEC 19757-2, section 8.
use Rattle.std.specs.Prelude.{ℕ, ◌+◌, max, List, [], ◌∷◌, ◌++◌, Option, Some, None}
use Rattle.std.specs.Option.{option_map, option_and_then}
use Rattle.rnc_parse.specs.declared.surface.TypeName.{TypeName}
use Rattle.rnc_parse.specs.declared.surface.Param.{Param}
use Rattle.rnc_parse.specs.declared.surface.Combine.{Combine}
use Rattle.rnc_parse.specs.declared.surface.Combine.TheVariants as combine
use Rattle.rng_core.specs.Names.{Class}

-- a value by its type's name and its literal
pub record Value : Type 0 where
  pub type : TypeName
  pub text : List ℕ

pub data Form : Type 0 where
  not_allowed : Form
  empty : Form
  any_text : Form
  value : Value → Form
  -- a type with its params, and the values that are taken away
  typed : TypeName → List Param → List Value → Form
  listed : Form → Form
  attribute : Class → Form → Form
  -- an element by the number of its definition
  ref : ℕ → Form
  one_or_more : Form → Form
  choice : Form → Form → Form
  group : Form → Form → Form
  interleave : Form → Form → Form

-- an element's names, and its content
pub record FormDefinition : Type 0 where
  pub class : Class
  pub content : Form

-- ---- what is not allowed, and what is empty: sections 7.21 and 7.22

-- a list, an attribute or a repetition of what is not allowed is not allowed
abbrev pub list_of : Form → Form
list_of not_allowed = not_allowed
list_of p = listed p

abbrev pub attribute_of : Class → Form → Form
attribute_of class not_allowed = not_allowed
attribute_of class p = attribute class p

-- and a repetition of nothing at all is nothing at all
abbrev pub one_or_more_of : Form → Form
one_or_more_of not_allowed = not_allowed
one_or_more_of empty = empty
one_or_more_of p = one_or_more p

-- a side of a choice that is not allowed is left out, two empty sides are one, and one empty side stands first
abbrev pub choice_of : Form → Form → Form
choice_of not_allowed q = q
choice_of p not_allowed = p
choice_of empty empty = empty
choice_of p empty = choice empty p
choice_of p q = choice p q

-- a side that is empty is left out, and the whole is not allowed where one side isn't
abbrev pub group_of : Form → Form → Form
group_of not_allowed q = not_allowed
group_of p not_allowed = not_allowed
group_of empty q = q
group_of p empty = p
group_of p q = group p q

abbrev pub interleave_of : Form → Form → Form
interleave_of not_allowed q = not_allowed
interleave_of p not_allowed = not_allowed
interleave_of empty q = q
interleave_of p empty = p
interleave_of p q = interleave p q

-- ---- definitions of one name: section 7.18

-- how they are combined: the first that says how
abbrev pub combine_of : List Combine → Combine
combine_of [] = combine.Alone
combine_of (combine.Alone ∷ more) = combine_of more
combine_of (combine.Choice ∷ more) = combine.Choice
combine_of (combine.Interleave ∷ more) = combine.Interleave

-- the two of them; one that stands alone is combined with nothing
abbrev pub combined_by : Combine → Form → Form → Form
combined_by combine.Alone = choice_of
combined_by combine.Choice = choice_of
combined_by combine.Interleave = interleave_of

-- ---- what is taken from a type

-- the values of a choice of values, and none where nothing is allowed
abbrev pub values_of : Form → Option (List Value)
values_of not_allowed = Some []
values_of (value v) = Some (v ∷ [])
values_of (choice p q) = option_and_then (λ first. option_map (λ second. first ++ second) (values_of q)) (values_of p)
values_of empty = None
values_of any_text = None
values_of (typed type params values) = None
values_of (listed p) = None
values_of (attribute class p) = None
values_of (ref number) = None
values_of (one_or_more p) = None
values_of (group p q) = None
values_of (interleave p q) = None

-- ---- how large a form is

-- its nodes
abbrev pub nodes : Form → ℕ
nodes not_allowed = 1
nodes empty = 1
nodes any_text = 1
nodes (value v) = 1
nodes (typed type params values) = 1
nodes (listed p) = 1 + nodes p
nodes (attribute class p) = 1 + nodes p
nodes (ref number) = 1
nodes (one_or_more p) = 1 + nodes p
nodes (choice p q) = 1 + nodes p + nodes q
nodes (group p q) = 1 + nodes p + nodes q
nodes (interleave p q) = 1 + nodes p + nodes q

-- those on its longest path; a reference is the last of its path
abbrev pub depth : Form → ℕ
depth not_allowed = 1
depth empty = 1
depth any_text = 1
depth (value v) = 1
depth (typed type params values) = 1
depth (listed p) = 1 + depth p
depth (attribute class p) = 1 + depth p
depth (ref number) = 1
depth (one_or_more p) = 1 + depth p
depth (choice p q) = 1 + max (depth p) (depth q)
depth (group p q) = 1 + max (depth p) (depth q)
depth (interleave p q) = 1 + max (depth p) (depth q)
