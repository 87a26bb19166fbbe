-- Live schemas: a choice of elements as their start, and definitions each part of which matches something.
use Rattle.std.specs.Prelude.{◌≡◌, ℕ, List, true, false, Some, slice_get}
use Rattle.rng_core.specs.Patterns.{Pattern, Definition, ref, choice, Language}
use Rattle.rng_kept.specs.Clean.{Clean}
use Rattle.rng_kept.specs.Apart.{IsApart}

-- a choice of elements
pub data IsStart : Pattern → Type 0 where
  one_ref : {i : ℕ} → IsStart (ref i)
  a_choice : {p q : Pattern} → IsStart p → IsStart q → IsStart (choice p q)

-- what a frame begins with
pub record IsFrame (g : Language) (p : Pattern) : Type 0 where
  pub start : IsStart p
  pub clean : Clean g.definitions false true p

-- each part of each content matches something, and its attributes are apart
pub record AreLive (g : List Definition) : Type 0 where
  pub clean : (i : ℕ) (d : Definition) → slice_get g i ≡ Some d → Clean g true true d.content
  pub apart : (i : ℕ) (d : Definition) → slice_get g i ≡ Some d → IsApart d.content

pub record IsLive (g : Language) : Type 0 where
  pub start : IsFrame g g.start
  pub definitions : AreLive g.definitions
