-- Patterns whose types and texts are in order, so that it can be told of each leaf which strings it takes.
use Rattle.std.specs.Prelude.{ℕ, ◌≤◌, List, length, IsTrue}
use Rattle.std.specs.List.{list_all, AllByRecursion}
use Rattle.std.specs.Str.{is_utf8}
use Rattle.nx_base.specs.declared.name.Name.{Name}
use Rattle.rng_types.specs.Types.{Accepts}
use Rattle.rng_types.specs.WellMade.{is_well_made, is_sound_except}
use Rattle.rng_core.specs.Patterns.{Pattern, Definition, not_allowed, empty, any_text, typed, literal, listed, attribute, ref}
use Rattle.rng_core.specs.Patterns.{one_or_more, choice, group, interleave}
use Rattle.rng_core.specs.Soundness.{IsSoundPattern}
use Rattle.rng_kept.specs.SmallPatterns as small
use Rattle.rng_kept.specs.Strings as strings
use Rattle.rng_kept.specs.SolidStrings as solid
use Rattle.rng_kept.specs.Attributes as attributes
use Rattle.rng_kept.specs.Openings as openings
use Rattle.rng_kept.specs.Openings.{Opening}
use Rattle.rng_kept.specs.Skipping as skipping
use Rattle.rng_kept.specs.Entering as entering

-- each type is well made, with at most 128 excepts that belong to it, and each literal is a text of its type
abbrev pub IsInOrder : Pattern → Type 0
IsInOrder not_allowed = Unit {0}
IsInOrder empty = Unit {0}
IsInOrder any_text = Unit {0}
IsInOrder (typed type excepts) = (length excepts ≤ 128) × IsTrue (is_well_made type) × IsTrue (list_all (is_sound_except type) excepts)
IsInOrder (literal type text) = IsTrue (is_utf8 text) × Accepts type text
IsInOrder (listed p) = IsInOrder p
IsInOrder (attribute class p) = IsInOrder p
IsInOrder (ref i) = Unit {0}
IsInOrder (one_or_more p) = IsInOrder p
IsInOrder (choice p q) = IsInOrder p × IsInOrder q
IsInOrder (group p q) = IsInOrder p × IsInOrder q
IsInOrder (interleave p q) = IsInOrder p × IsInOrder q

-- the contents of definitions are so
abbrev pub ContentsAreInOrder : List Definition → Type 0
ContentsAreInOrder g = AllByRecursion (λ d. IsInOrder d.content) g

-- the patterns of a sound grammar are so
abbrev pub SoundAreInOrder : Type 0
SoundAreInOrder = (count : ℕ) (p : Pattern) → IsSoundPattern count p → IsInOrder p

abbrev pub StaysInOrder : (Pattern → Pattern) → Type 0
StaysInOrder f = (p : Pattern) → IsInOrder p → IsInOrder (f p)

abbrev pub TwoStayInOrder : (Pattern → Pattern → Pattern) → Type 0
TwoStayInOrder f = (p q : Pattern) → IsInOrder p → IsInOrder q → IsInOrder (f p q)

-- the rests behind openings are in order
abbrev pub RestsAreInOrder : List Opening → Type 0
RestsAreInOrder os = AllByRecursion (λ o. IsInOrder o.rest) os

-- what is put together from patterns in order is in order, and so is what is left of one
pub record LeftInOrder : Type 0 where
  pub choice_of : TwoStayInOrder small.choice_of
  pub after : (t : List ℕ) → StaysInOrder (strings.after t)
  pub after_solid : StaysInOrder solid.after_solid
  pub loosen : StaysInOrder solid.loosen
  pub after_attribute : (n : Name) (v : List ℕ) → StaysInOrder (attributes.after_attribute n v)
  pub after_any_attribute : (n : Name) → StaysInOrder (attributes.after_any_attribute n)
  pub close : StaysInOrder attributes.close
  pub drop : StaysInOrder attributes.drop
  pub opens : (g : List Definition) (n : Name) (p : Pattern) → IsInOrder p → RestsAreInOrder (openings.opens g n p)
  pub skip_opens : (g : List Definition) (n : Name) (p : Pattern) → IsInOrder p → RestsAreInOrder (skipping.skip_opens g n p)
  pub rest_at : (i : ℕ) (os : List Opening) → RestsAreInOrder os → IsInOrder (entering.rest_at i os)
