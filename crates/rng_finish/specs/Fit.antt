-- Leaves that can be asked for names, strings and elements. Nothing here is needed to believe what they are filled with.
use Rattle.std.specs.Prelude.{◌≡◌, ℕ, Bool, true, List, Option, None, Some}
use Rattle.std.specs.List.{AllByRecursion}
use Rattle.rng_core.specs.declared.grammar.Pat.{Pat}
use Rattle.rng_core.specs.Meaning.{pattern_of}
use Rattle.rng_core.specs.Patterns.{Pattern, Definition, attribute, ref}
use Rattle.rng_cost.specs.Leaves.{leaves}
use Rattle.rng_fill.specs.Doing.{AddsElement, AddsAttribute}
use Rattle.rng_fill.specs.Fillable.{IsNamed}
use Rattle.rng_fill.specs.Strings.{AreSoundTexts}
use Rattle.rng_fill.specs.declared.moves.Move.{Move}
use Rattle.rng_finish.specs.declared.left.Left.{Left}
use Rattle.rng_finish.specs.declared.left.Level.{Level}
use Rattle.rng_finish.specs.declared.left.Level.TheVariants as level
use Rattle.rng_finish.specs.Filled.{AddsChildren}

-- the texts of a leaf are sound, and an element of it has a name
abbrev pub FitsLeaf : List Definition → Pattern → Type 0
FitsLeaf g (attribute class p) = AreSoundTexts p
FitsLeaf g (ref i) = IsNamed g i
FitsLeaf g p = AreSoundTexts p

-- those of an attribute's value
abbrev pub HasSoundValue : Pattern → Type 0
HasSoundValue (attribute class p) = AreSoundTexts p
HasSoundValue p = Unit {0}

abbrev pub FitLeaves : List Definition → List Pattern → Type 0
FitLeaves g ps = AllByRecursion (FitsLeaf g) ps

abbrev pub Fits : List Definition → List ℕ → Pattern → Type 0
Fits g costs p = FitLeaves g (leaves costs p)

abbrev pub FitsLevel : List Definition → List ℕ → Level → Type 0
FitsLevel g costs level.Void = Unit {0}
FitsLevel g costs (level.Strict p) = Fits g costs (pattern_of p)
FitsLevel g costs (level.Loose p) = Fits g costs (pattern_of p)

abbrev pub FitLevels : List Definition → List ℕ → List Level → Type 0
FitLevels g costs ls = AllByRecursion (FitsLevel g costs) ls

abbrev pub FitsIfTag : List Definition → List ℕ → Option Pat → Type 0
FitsIfTag g costs None = Unit {0}
FitsIfTag g costs (Some p) = Fits g costs (pattern_of p)

-- so are the leaves of each pattern that is left
pub record FitsLeft (g : List Definition) (costs : List ℕ) (left : Left) : Type 0 where
  pub tag : FitsIfTag g costs left.tag
  pub levels : FitLevels g costs left.levels.items
  pub document : Fits g costs (pattern_of left.document)

-- elements were added, which are no strings, whether or not the children are to be solid
abbrev pub AddsElements : List Definition → List Pattern → List Move → List Move → Type 0
AddsElements g ps old new = (solid : Bool) → AddsChildren g solid ps true old new

-- the element of a leaf was added, which is an element's
abbrev pub AddsLeaf : List Definition → Pattern → List Move → List Move → Type 0
AddsLeaf g (ref i) old new = AddsElement g i old new
AddsLeaf g _ old new = ⊥

-- the attribute of a leaf was added, if it is an attribute's
abbrev pub AddsIfAttribute : Pattern → List Move → List Move → Type 0
AddsIfAttribute (attribute class body) old new = AddsAttribute class body old new
AddsIfAttribute _ old new = new ≡ old
