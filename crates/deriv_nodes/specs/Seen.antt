-- Nodes as they are read.
use Rattle.std.specs.Prelude.{◌≡◌, ℕ, ◌<◌, List}
use Rattle.rng_core.specs.Meaning.{class_of}
use Rattle.rng_core.specs.Patterns.{Pattern, not_allowed, empty, any_text, typed, literal, listed, attribute, ref}
use Rattle.rng_core.specs.Patterns.{one_or_more, choice, group, interleave}
use Rattle.deriv_pattern.specs.Leaves.{IsInOrder}
use Rattle.deriv_nodes.specs.declared.node.Node.{Node}
use Rattle.deriv_nodes.specs.declared.node.Node.TheVariants as node
use Rattle.deriv_nodes.specs.Numbers.{at}

-- the pattern of a node, of nodes by their numbers
abbrev pub pattern_in : List Pattern → Node → Pattern
pattern_in nodes node.NotAllowed = not_allowed
pattern_in nodes node.Empty = empty
pattern_in nodes node.Text = any_text
pattern_in nodes (node.Typed type excepts) = typed type.now excepts.now
pattern_in nodes (node.Value type text) = literal type.now text.now
pattern_in nodes (node.List a) = listed (at nodes a)
pattern_in nodes (node.Attribute class a) = attribute (class_of class.now) (at nodes a)
pattern_in nodes (node.Ref i) = ref i
pattern_in nodes (node.OneOrMore a) = one_or_more (at nodes a)
pattern_in nodes (node.Choice a b) = choice (at nodes a) (at nodes b)
pattern_in nodes (node.Group a b) = group (at nodes a) (at nodes b)
pattern_in nodes (node.Interleave a b) = interleave (at nodes a) (at nodes b)

-- the parts of a node stand before a place
abbrev pub HasPartsBelow : ℕ → Node → Type 0
HasPartsBelow n node.NotAllowed = Unit {0}
HasPartsBelow n node.Empty = Unit {0}
HasPartsBelow n node.Text = Unit {0}
HasPartsBelow n (node.Typed type excepts) = Unit {0}
HasPartsBelow n (node.Value type text) = Unit {0}
HasPartsBelow n (node.List a) = a < n
HasPartsBelow n (node.Attribute class a) = a < n
HasPartsBelow n (node.Ref i) = Unit {0}
HasPartsBelow n (node.OneOrMore a) = a < n
HasPartsBelow n (node.Choice a b) = (a < n) × (b < n)
HasPartsBelow n (node.Group a b) = (a < n) × (b < n)
HasPartsBelow n (node.Interleave a b) = (a < n) × (b < n)

-- the type or the value of a node is in order
abbrev pub HasLeafInOrder : Node → Type 0
HasLeafInOrder (node.Typed type excepts) = IsInOrder (typed type.now excepts.now)
HasLeafInOrder (node.Value type text) = IsInOrder (literal type.now text.now)
HasLeafInOrder other = Unit {0}

-- a type or a value
abbrev pub IsDataNode : Pattern → Node → Type 0
IsDataNode p (node.Typed type excepts) = p ≡ typed type.now excepts.now
IsDataNode p (node.Value type text) = p ≡ literal type.now text.now
IsDataNode p other = ⊥
