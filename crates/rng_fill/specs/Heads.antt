-- How elements of definitions begin, as it is kept.
use Rattle.std.specs.Prelude.{◌≡◌, ℕ, List, [], ◌∷◌, ◌++◌, Option, None, Some, length, slice_get}
use Rattle.rng_core.specs.Patterns.{Pattern, Definition}
use Rattle.rng_core.specs.declared.name_class.Bearer.TheVariants.{Element}
use Rattle.rng_cost.specs.Leaves.{leaves}
use Rattle.rng_fill.specs.declared.moves.Move.{Move}
use Rattle.rng_fill.specs.declared.moves.Move.TheVariants as move
use Rattle.rng_fill.specs.declared.heads.Head.{Head}
use Rattle.rng_fill.specs.declared.heads.Heads.{Heads}
use Rattle.rng_fill.specs.Sorted.{attribute_leaves, string_leaves, first_of}
use Rattle.rng_fill.specs.Strings.{IsNameAnswer}
use Rattle.rng_fill.specs.Doing.{AddsAttributes, AddsString}

-- the string of a leaf was added, if there is one
abbrev pub AddsStringOf : Option Pattern → List Move → List Move → Type 0
AddsStringOf None old new = new ≡ old
AddsStringOf (Some leaf) old new = AddsString leaf old new

-- moves of attributes that are matched by these leaves, of the end of their tag, and of the string that follows, if there is one
pub record IsBeginning (ps : List Pattern) (moves : List Move) : Type 0 where
  pub tag : List Move
  pub attributes : AddsAttributes (attribute_leaves ps) [] tag
  pub string : AddsStringOf (first_of (string_leaves ps)) (tag ++ move.TagEnd ∷ []) moves

-- such moves for the leaves of the content of a definition
pub record IsBeginningOf (g : List Definition) (costs : List ℕ) (i : ℕ) (moves : List Move) : Type 0 where
  pub definition : Definition
  pub at : slice_get g i ≡ Some definition
  pub beginning : IsBeginning (leaves costs definition.content) moves

-- and a name of its class
pub record IsHeadOf (g : List Definition) (costs : List ℕ) (i : ℕ) (head : Head) : Type 0 where
  pub definition : Definition
  pub at : slice_get g i ≡ Some definition
  pub name : IsNameAnswer Element definition.class head.name
  pub moves : IsBeginningOf g costs i head.moves

-- what is known of each definition, by its number
abbrev pub known_heads : Heads → List (Option Head)
known_heads heads = heads.items.items

-- as many as definitions, and each is so
pub record AreHeads (g : List Definition) (costs : List ℕ) (heads : Heads) : Type 0 where
  pub as_many : length (known_heads heads) ≡ length g
  pub each : (i : ℕ) (head : Head) → slice_get (known_heads heads) i ≡ Some (Some head) → IsHeadOf g costs i head
