-- What is left of the definitions that are kept.
use Rattle.std.specs.Prelude.{◌≡◌, ◌<◌, ℕ, Bool, true, false, List, Some, slice_get, length, nat_lt}
use Rattle.rng_core.specs.Patterns.{Pattern, Definition}
use Rattle.rng_restrict.specs.Finding.{is_among}
use Rattle.rng_live.specs.declared.condition.Condition.{Condition}
use Rattle.rng_live.specs.declared.condition.Condition.TheVariants.{If}
use Rattle.rng_live.specs.Conditions.{AreHeld}
use Rattle.rng_live.specs.Living.{lives_with, has_some_name}
use Rattle.rng_live.specs.Spelling.{AreSpelled}
use Rattle.rng_live.specs.Pruned.{PrunesDefinitionBy, Reaches, AreOnce}
use Rattle.rng_live.specs.Left.{refs_are, prune, prune_all, LeavesTo}

-- what is left of a definition has its class, and what is left of its content
pub record LeavesDefinition (conditions : List Condition) (marks : List Bool) (count i : ℕ) (d : Definition) (numbers numbers' : List ℕ)
    (e : Definition) : Type 0 where
  pub same_class : e.class ≡ d.class
  pub leaves : (root : ℕ) → slice_get conditions i ≡ Some (If (has_some_name d.class) root)
      → LeavesTo conditions marks count root d.content numbers numbers' e.content

-- numbers of definitions that a start reaches, each once; the contents of the first so many were followed
pub record Spread (start : Pattern) (g : List Definition) (numbers : List ℕ) (next : ℕ) : Type 0 where
  pub only : (i : ℕ) → is_among i numbers ≡ true → Reaches start g i
  pub within : (i : ℕ) → is_among i numbers ≡ true → i < length g
  pub begun : refs_are (λ i. is_among i numbers) start ≡ true
  pub followed : (k i : ℕ) (d : Definition) → k < next → slice_get numbers k ≡ Some i → slice_get g i ≡ Some d
      → refs_are (λ i. is_among i numbers) d.content ≡ true
  pub once : AreOnce numbers

-- each reference names one of so many definitions
abbrev pub AreNumbered : ℕ → List Definition → Type 0
AreNumbered count g = (i : ℕ) (d : Definition) → slice_get g i ≡ Some d → refs_are (λ j. nat_lt j count) d.content ≡ true

-- what is left of the first definitions of these numbers
pub record AreLeft (marks : List Bool) (start : Pattern) (g : List Definition) (numbers : List ℕ) (made : List Definition) : Type 0 where
  pub spread : Spread (prune marks start) (prune_all marks g) numbers (length made)
  pub left : (k i : ℕ) (e : Definition) → slice_get numbers k ≡ Some i → slice_get made k ≡ Some e
      → PrunesDefinitionBy (λ q. lives_with marks q ≡ true) (λ q. lives_with marks q ≡ false) g numbers i e

-- and of all of them
pub record AllLeft (marks : List Bool) (start : Pattern) (g : List Definition) (numbers numbers' : List ℕ)
    (made : List Definition) : Type 0 where
  pub are : AreLeft marks start g numbers' made
  pub as_many : length made ≡ length numbers'
  pub still : (k i : ℕ) → slice_get numbers k ≡ Some i → slice_get numbers' k ≡ Some i

-- when those that the start refers to were kept before
pub record LeavesAll (conditions : List Condition) (marks : List Bool) (g : List Definition) (numbers numbers' : List ℕ)
    (made : List Definition) : Type 0 where
  pub leaves : (start : Pattern) → AreSpelled g conditions → AreHeld conditions marks → AreNumbered (length g) g
      → Spread (prune marks start) (prune_all marks g) numbers 0
      → AllLeft marks start g numbers numbers' made
