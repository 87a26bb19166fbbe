-- What nodes stand for: patterns, each put together of those before it.
use Rattle.std.specs.Prelude.{◌≡◌, ℕ, ◌<◌, ◌++◌, suc, ◌⊎◌, List, [], ◌∷◌, length, Option, None, Some, slice_get}
use Rattle.rng_core.specs.Names.{Class, any_name}
use Rattle.rng_core.specs.Meaning.{pattern_of}
use Rattle.rng_core.specs.Patterns.{Pattern, not_allowed, empty, any_text, typed, literal, listed, attribute, ref}
use Rattle.rng_core.specs.Patterns.{one_or_more, choice, group, interleave}
use Rattle.deriv_pattern.specs.Leaves.{IsInOrder}
use Rattle.deriv_nodes.specs.declared.leaf.Leaf.{Leaf}
use Rattle.deriv_nodes.specs.declared.shape.Shape.{Shape}
use Rattle.deriv_nodes.specs.declared.shape.Shape.TheVariants as shape
use Rattle.deriv_nodes.specs.Numbers.{at}

abbrev pub leaf_in : Option Leaf → Pattern
leaf_in None = not_allowed
leaf_in (Some leaf) = pattern_of leaf.pattern

-- the leaf of a number
abbrev pub leaf_at : List Leaf → ℕ → Pattern
leaf_at leaves k = leaf_in (slice_get leaves k)

abbrev pub class_in : Pattern → Class
class_in (attribute class p) = class
class_in p = any_name

-- what is put together so, of these leaves and nodes
abbrev pub whole_of : List Leaf → List Pattern → Shape → Pattern
whole_of leaves nodes shape.NotAllowed = not_allowed
whole_of leaves nodes shape.Empty = empty
whole_of leaves nodes shape.Text = any_text
whole_of leaves nodes (shape.Data k) = leaf_at leaves k
whole_of leaves nodes (shape.List a) = listed (at nodes a)
whole_of leaves nodes (shape.Attribute k a) = attribute (class_in (leaf_at leaves k)) (at nodes a)
whole_of leaves nodes (shape.Ref i) = ref i
whole_of leaves nodes (shape.OneOrMore a) = one_or_more (at nodes a)
whole_of leaves nodes (shape.Choice a b) = choice (at nodes a) (at nodes b)
whole_of leaves nodes (shape.Group a b) = group (at nodes a) (at nodes b)
whole_of leaves nodes (shape.Interleave a b) = interleave (at nodes a) (at nodes b)

-- the patterns of nodes, where these stand before them
abbrev pub patterns_behind : List Leaf → List Pattern → List Shape → List Pattern
patterns_behind leaves done [] = done
patterns_behind leaves done (s ∷ ss) = patterns_behind leaves (done ++ whole_of leaves done s ∷ []) ss

unfoldable pub patterns_of : List Leaf → List Shape → List Pattern
patterns_of leaves shapes = patterns_behind leaves [] shapes

-- ---- which nodes are right

-- a type or a value
abbrev pub IsData : Pattern → Type 0
IsData (typed type excepts) = Unit {0}
IsData (literal type text) = Unit {0}
IsData p = ⊥

-- the names of an attribute
abbrev pub IsNames : Pattern → Type 0
IsNames (attribute class p) = p ≡ empty
IsNames p = ⊥

-- parts stand before a place, and leaves are there
abbrev pub IsBelow : List Leaf → ℕ → Shape → Type 0
IsBelow leaves n shape.NotAllowed = Unit {0}
IsBelow leaves n shape.Empty = Unit {0}
IsBelow leaves n shape.Text = Unit {0}
IsBelow leaves n (shape.Data k) = IsData (leaf_at leaves k)
IsBelow leaves n (shape.List a) = a < n
IsBelow leaves n (shape.Attribute k a) = IsNames (leaf_at leaves k) × (a < n)
IsBelow leaves n (shape.Ref i) = Unit {0}
IsBelow leaves n (shape.OneOrMore a) = a < n
IsBelow leaves n (shape.Choice a b) = (a < n) × (b < n)
IsBelow leaves n (shape.Group a b) = (a < n) × (b < n)
IsBelow leaves n (shape.Interleave a b) = (a < n) × (b < n)

-- parts stand before wholes, the first of which has this place
abbrev pub AreOrdered : List Leaf → ℕ → List Shape → Type 0
AreOrdered leaves n [] = Unit {0}
AreOrdered leaves n (s ∷ ss) = IsBelow leaves n s × AreOrdered leaves (suc n) ss

-- of what is put together of nodes alone: parts are nodes
abbrev pub IsInner : ℕ → Shape → Type 0
IsInner n shape.NotAllowed = Unit {0}
IsInner n shape.Empty = Unit {0}
IsInner n shape.Text = Unit {0}
IsInner n (shape.Data k) = ⊥
IsInner n (shape.List a) = a < n
IsInner n (shape.Attribute k a) = ⊥
IsInner n (shape.Ref i) = Unit {0}
IsInner n (shape.OneOrMore a) = a < n
IsInner n (shape.Choice a b) = (a < n) × (b < n)
IsInner n (shape.Group a b) = (a < n) × (b < n)
IsInner n (shape.Interleave a b) = (a < n) × (b < n)

-- with a key, which is there or comes last
abbrev pub HasKey : {T : Type 0} → List T → List T → T → Type 0
HasKey old new key = (new ≡ old) ⊎ (new ≡ old ++ key ∷ [])

-- no key stands twice
abbrev pub AreOnce : {T : Type 0} → List T → Type 0
AreOnce {T} keys = (i j : ℕ) (key : T) → slice_get keys i ≡ Some key → slice_get keys j ≡ Some key → i ≡ j

-- no two nodes are put together alike, and no two leaves are alike
pub record IsTable (leaves : List Leaf) (shapes : List Shape) : Type 0 where
  pub ordered : AreOrdered leaves 0 shapes
  pub single : AreOnce shapes
  pub single_leaves : (i j : ℕ) → i < length leaves → j < length leaves → leaf_at leaves i ≡ leaf_at leaves j → i ≡ j
  pub leaves_in_order : (k : ℕ) → IsInOrder (leaf_at leaves k)
