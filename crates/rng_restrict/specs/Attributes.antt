-- Attributes of one element: ISO/IEC 19757-2, section 10.4.
use Rattle.std.specs.Prelude.{ℕ, List}
use Rattle.rng_core.specs.Names.{Class, any_name, ns_name, either, without, AttributeOverlap}
use Rattle.rng_core.specs.Patterns.{Pattern, Definition, attribute, group, interleave}
use Rattle.rng_restrict.specs.Standing.{Stands, StandsOnce, Occurs}
use Rattle.rng_restrict.specs.Reaching.{Somewhere}

-- in a group or an interleave both sides have an attribute with a name in common, which is one that an attribute can have
pub data HasAttributeOverlap (p : Pattern) : Type 0 where
  in_group : {a b x y : Pattern} {c d : Class} →
      Stands (group a b) p → Occurs (attribute c x) a → Occurs (attribute d y) b → AttributeOverlap c d →
      HasAttributeOverlap p
  in_interleave : {a b x y : Pattern} {c d : Class} →
      Stands (interleave a b) p → Occurs (attribute c x) a → Occurs (attribute d y) b → AttributeOverlap c d →
      HasAttributeOverlap p

abbrev pub BreaksAttributeOverlap : Pattern → List Definition → Type 0
BreaksAttributeOverlap start defs = Somewhere HasAttributeOverlap start defs

-- anyName or nsName stands in the class
pub data HasWildcard : Class → Type 0 where
  any_name_stands : HasWildcard any_name
  ns_name_stands : {ns : List ℕ} → HasWildcard (ns_name ns)
  in_first : {c d : Class} → HasWildcard c → HasWildcard (either c d)
  in_second : {c d : Class} → HasWildcard d → HasWildcard (either c d)
  in_all : {c d : Class} → HasWildcard c → HasWildcard (without c d)
  in_taken : {c d : Class} → HasWildcard d → HasWildcard (without c d)

-- an attribute with such a class has no oneOrMore above it
pub data HasWildcardOnce (p : Pattern) : Type 0 where
  wildcard_once : {c : Class} {x : Pattern} → StandsOnce (attribute c x) p → HasWildcard c → HasWildcardOnce p

abbrev pub BreaksWildcardOnce : Pattern → List Definition → Type 0
BreaksWildcardOnce start defs = Somewhere HasWildcardOnce start defs
