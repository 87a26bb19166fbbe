-- Moves that fill what is left of a way.
use Rattle.std.specs.Prelude.{◌≡◌, ℕ, Bool, true, false, not, List, [], ◌∷◌, ◌++◌, Option, None, Some}
use Rattle.std.specs.List.{filter}
use Rattle.nx_base.specs.Trees.{Children, nil, string, without_blanks, AreChildren, Event, Chars, children_flat, AreWritable}
use Rattle.rng_core.specs.declared.grammar.Pat.{Pat}
use Rattle.rng_core.specs.Meaning.{pattern_of}
use Rattle.rng_core.specs.Patterns.{Pattern, Definition}
use Rattle.rng_cost.specs.Leaves.{leaves}
use Rattle.rng_fill.specs.declared.moves.Move.{Move}
use Rattle.rng_fill.specs.declared.moves.Move.TheVariants as move
use Rattle.rng_fill.specs.Doing.{AddsAttributes}
use Rattle.rng_fill.specs.Matched.{AreMatched}
use Rattle.rng_fill.specs.Moves.{events_of}
use Rattle.rng_fill.specs.Sorted.{is_attribute, attribute_leaves}
use Rattle.rng_rests.specs.Rests.{AreApart}
use Rattle.rng_finish.specs.declared.left.Left.{Left}
use Rattle.rng_finish.specs.declared.left.Level.{Level}
use Rattle.rng_finish.specs.declared.left.Level.TheVariants as level

-- ---- children

-- events don't begin with a string
abbrev pub BeginsWithNone : List Event → Type 0
BeginsWithNone (Chars t ∷ s) = ⊥
BeginsWithNone _ = Unit {0}

-- children that a text can have, none of whose strings is empty or stands beside another one; nor is one blank, where they are to be solid
pub record CanStand (is_solid : Bool) (k : Children) : Type 0 where
  pub children : AreChildren k
  pub writable : AreWritable (children_flat k [])
  pub apart : (s : List Event) → BeginsWithNone s → AreApart s → AreApart (children_flat k s)
  pub solid : is_solid ≡ true → without_blanks k ≡ k

-- children as patterns see them: as they stand, or, where there are none, as one empty string
abbrev pub IsSeen : Bool → Children → Children → Type 0
IsSeen true k seen = seen ≡ k
IsSeen false k seen = (k ≡ nil) × (seen ≡ string [] nil)

-- moves of children were added that these patterns match, one after another
pub record AddsChildren (g : List Definition) (solid : Bool) (ps : List Pattern) (plain : Bool) (old new : List Move) : Type 0 where
  pub children : Children
  pub seen : Children
  pub is_seen : IsSeen plain children seen
  pub matched : AreMatched g ps [] seen
  pub stands : CanStand solid children
  pub added : List Move
  pub is : new ≡ old ++ added
  pub events : (s : List Event) → events_of added ++ s ≡ children_flat children s

-- ---- from the inside outwards

-- the leaves that aren't those of attributes
abbrev pub child_leaves : List Pattern → List Pattern
child_leaves ps = filter (λ p. not (is_attribute p)) ps

-- children were added by the leaves of a pattern, and an element's end
pub record EndsChildren (g : List Definition) (costs : List ℕ) (solid : Bool) (p : Pattern) (old new : List Move) : Type 0 where
  pub middle : List Move
  pub children : AddsChildren g solid (leaves costs p) true old middle
  pub is : new ≡ middle ++ move.Leave ∷ []

-- what is left of an open element
abbrev pub FillsLevel : List Definition → List ℕ → Level → List Move → List Move → Type 0
FillsLevel g costs level.Void old new = new ≡ old ++ move.Leave ∷ []
FillsLevel g costs (level.Strict p) old new = EndsChildren g costs false (pattern_of p) old new
FillsLevel g costs (level.Loose p) old new = EndsChildren g costs true (pattern_of p) old new

-- of all open elements, and then what stands outside of the root
pub data FillsLevels (g : List Definition) (costs : List ℕ) (d : Pattern) : List Level → List Move → List Move → Type 0 where
  fills_document : {old new : List Move} → AddsChildren g false (leaves costs d) true old new → FillsLevels g costs d [] old new
  fills_level : {one : Level} {ls : List Level} {old middle new : List Move} → FillsLevel g costs one old middle
      → FillsLevels g costs d ls middle new → FillsLevels g costs d (one ∷ ls) old new

-- the attributes of a start tag were added, by the leaves of the pattern that is left in it, its end, the children, and the element's end
pub record FillsTag (g : List Definition) (costs : List ℕ) (p : Pattern) (old new : List Move) : Type 0 where
  pub tag : List Move
  pub attributes : AddsAttributes (attribute_leaves (leaves costs p)) old tag
  pub plain : Bool
  pub inside : List Move
  pub children : AddsChildren g false (child_leaves (leaves costs p)) plain (tag ++ move.TagEnd ∷ []) inside
  pub is : new ≡ inside ++ move.Leave ∷ []

abbrev pub FillsIfTag : List Definition → List ℕ → Option Pat → List Move → List Move → Type 0
FillsIfTag g costs None old new = new ≡ old
FillsIfTag g costs (Some p) old new = FillsTag g costs (pattern_of p) old new

-- all of it
pub record FillsLeft (g : List Definition) (costs : List ℕ) (left : Left) (old new : List Move) : Type 0 where
  pub inside : List Move
  pub tag : FillsIfTag g costs left.tag old inside
  pub levels : FillsLevels g costs (pattern_of left.document) left.levels.items inside new
