-- What contents need so that they can be filled by their least costs.
use Rattle.std.specs.Prelude.{◌≡◌, ◌≤◌, ◌<◌, ℕ, Bool, true, false, ◌&&◌, ◌||◌, not, List, Option, None, Some, length, slice_get, IsTrue}
use Rattle.std.specs.List.{AllByRecursion}
use Rattle.nx_base.specs.Trees.{Attribute, AreAttributes}
use Rattle.rng_core.specs.Patterns.{Pattern, Definition, typed, literal, listed, attribute, ref, one_or_more, choice, group, interleave}
use Rattle.rng_kept.specs.Nullable.{nullable}
use Rattle.rng_live.specs.Living.{has_some_name, has_some_attribute_name}
use Rattle.rng_cost.specs.Least.{cost_at, least}
use Rattle.rng_cost.specs.Leaves.{leaves}
use Rattle.rng_fill.specs.Sorted.{attribute_leaves, ref_leaves, AreAttributesOf}
use Rattle.rng_fill.specs.Strings.{AreSoundTexts, has_some_string}

-- ---- no string stands beside a string or an element: ISO/IEC 19757-2, section 10.3

-- whether a leaf of a string stands in a content
abbrev pub has_string_leaf : Pattern → Bool
has_string_leaf (typed type excepts) = true
has_string_leaf (literal type text) = true
has_string_leaf (listed p) = true
has_string_leaf (one_or_more p) = has_string_leaf p
has_string_leaf (choice p q) = has_string_leaf p || has_string_leaf q
has_string_leaf (group p q) = has_string_leaf p || has_string_leaf q
has_string_leaf (interleave p q) = has_string_leaf p || has_string_leaf q
has_string_leaf _ = false

-- whether an element does
abbrev pub has_element : Pattern → Bool
has_element (ref i) = true
has_element (one_or_more p) = has_element p
has_element (choice p q) = has_element p || has_element q
has_element (group p q) = has_element p || has_element q
has_element (interleave p q) = has_element p || has_element q
has_element _ = false

-- whether two sides may stand beside one another
abbrev pub are_unmixed : Pattern → Pattern → Bool
are_unmixed p q = not (has_string_leaf p && (has_string_leaf q || has_element q)) && not (has_string_leaf q && has_element p)

abbrev pub is_unmixed : Pattern → Bool
is_unmixed (one_or_more p) = is_unmixed p
is_unmixed (choice p q) = is_unmixed p && is_unmixed q
is_unmixed (group p q) = are_unmixed p q && (is_unmixed p && is_unmixed q)
is_unmixed (interleave p q) = are_unmixed p q && (is_unmixed p && is_unmixed q)
is_unmixed _ = true

-- each content is
pub record HaveUnmixedContents (g : List Definition) : Type 0 where
  pub unmixed : (i : ℕ) (d : Definition) → slice_get g i ≡ Some d → is_unmixed d.content ≡ true

-- ---- each leaf can be filled

-- a leaf that isn't that of an element takes something: an attribute a name and a value, another a string
abbrev pub HasFilling : Pattern → Type 0
HasFilling (attribute class p) = IsTrue (has_some_attribute_name class) × AreSoundTexts p × IsTrue (has_some_string false p || nullable p)
HasFilling (ref i) = Unit {0}
HasFilling p = AreSoundTexts p × IsTrue (has_some_string false p)

-- whether elements of a number have a name
abbrev pub is_named_by : Option Definition → Bool
is_named_by None = false
is_named_by (Some d) = has_some_name d.class

abbrev pub IsNamed : List Definition → ℕ → Type 0
IsNamed g i = IsTrue (is_named_by (slice_get g i))

-- what is asked of definitions and their costs, so that each can be filled: none is large, and each content needs no more than is kept of
-- it; a content's string stands alone, its attributes have distinct names, its leaves take something, and its elements have names
pub record CanBeFilled (g : List Definition) (costs : List ℕ) : Type 0 where
  pub small : (i : ℕ) → i < length g → cost_at costs i ≤ 10000
  pub settled : (i : ℕ) (d : Definition) → slice_get g i ≡ Some d → least costs d.content ≤ cost_at costs i
  pub unmixed : (i : ℕ) (d : Definition) → slice_get g i ≡ Some d → is_unmixed d.content ≡ true
  pub distinct : (i : ℕ) (d : Definition) → slice_get g i ≡ Some d → (a : List Attribute)
      → AreAttributesOf g (attribute_leaves (leaves costs d.content)) a → AreAttributes a
  pub filled : (i : ℕ) (d : Definition) → slice_get g i ≡ Some d → AllByRecursion HasFilling (leaves costs d.content)
  pub named : (i : ℕ) (d : Definition) → slice_get g i ≡ Some d → AllByRecursion (IsNamed g) (ref_leaves (leaves costs d.content))
