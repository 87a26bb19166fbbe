-- Leaves by their kinds.
use Rattle.std.specs.Prelude.{ℕ, Bool, true, false, List, [], ◌∷◌, Option, None, Some}
use Rattle.std.specs.List.{filter, filter_map}
use Rattle.nx_base.specs.Trees.{Attribute, nil}
use Rattle.rng_core.specs.Patterns.{Pattern, Definition, attribute, ref}
use Rattle.rng_core.specs.Matching.{Matches}

-- those of attributes
abbrev pub is_attribute : Pattern → Bool
is_attribute (attribute class p) = true
is_attribute _ = false

abbrev pub attribute_leaves : List Pattern → List Pattern
attribute_leaves leaves = filter is_attribute leaves

-- the numbers of elements
abbrev pub number_of : Pattern → Option ℕ
number_of (ref i) = Some i
number_of _ = None

abbrev pub ref_leaves : List Pattern → List ℕ
ref_leaves leaves = filter_map number_of leaves

-- and all others, which are those of strings
abbrev pub takes_string : Pattern → Bool
takes_string (attribute class p) = false
takes_string (ref i) = false
takes_string _ = true

abbrev pub string_leaves : List Pattern → List Pattern
string_leaves leaves = filter takes_string leaves

-- attributes that are matched by leaves, each by its own
pub data AreAttributesOf (g : List Definition) : List Pattern → List Attribute → Type 0 where
  no_leaf : AreAttributesOf g [] []
  one_leaf : {p : Pattern} {ps : List Pattern} {x : Attribute} {a : List Attribute} → Matches g p (x ∷ []) nil → AreAttributesOf g ps a
      → AreAttributesOf g (p ∷ ps) (x ∷ a)

abbrev pub first_of : List Pattern → Option Pattern
first_of [] = None
first_of (p ∷ ps) = Some p
