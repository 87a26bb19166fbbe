-- Which residuals stand for kept lists.
use Rattle.std.specs.Prelude.{◌≡◌, ℕ, List, [], ◌∷◌, Option, Some, None, ◌+◌, if◌then◌else◌, slice_get, IsTrue}
use Rattle.nx_base.specs.declared.name.Name.{Name}
use Rattle.nx_base.specs.Trees.{Event}
use Rattle.rng_core.specs.Names.{has_name}
use Rattle.rng_core.specs.Patterns.{Pattern, Definition, not_allowed, ref, Language}
use Rattle.rng_kept.specs.Events.{AreText, IsDistinct}
use Rattle.rng_kept.specs.Moves.{Move, attributes_of, AreTextMoves}
use Rattle.rng_kept.specs.KeptLists.{IsEndOf, NoneIsViable}
use Rattle.rng_kept.specs.SmallPatterns.{choice_of}
use Rattle.rng_kept.specs.Residuals.{Residual, among, document, Takes}
use Rattle.rng_kept.specs.Lively.{Lively}
use Rattle.rng_kept.specs.Live.{IsFrame}

-- of the lists of text in which no tag repeats an attribute, a residual takes exactly the ends of valid lists that begin with a kept
-- one, and each part of it takes something that can be written
pub record Stands (g : Language) (p : Pattern) (h : List Move) (x : Residual) : Type 0 where
  pub frame : IsFrame g p
  pub text : AreTextMoves h
  pub sound : (s : List Event) → AreText s → IsDistinct (attributes_of h) s → Takes g.definitions x s → IsEndOf g p h s
  pub complete : (s : List Event) → AreText s → IsEndOf g p h s → Takes g.definitions x s
  pub lively : Lively g.definitions (attributes_of h) x

-- an answer stands for the lists that are kept behind one move more, and is none exactly where none of these is viable
abbrev pub StandsBehind : Language → Pattern → List Move → Move → Option Residual → Type 0
StandsBehind g p h m None = NoneIsViable g p (m ∷ h)
StandsBehind g p h m (Some x) = Stands g p (m ∷ h) x

-- what a frame begins with
abbrev pub first_residual : Pattern → Residual
first_residual p = among (document p) ∷ []

-- a definition's elements may have the name
pub record IsKnown (g : Language) (name : Name) : Type 0 where
  pub number : ℕ
  pub definition : Definition
  pub is : slice_get g.definitions number ≡ Some definition
  pub named : IsTrue (has_name definition.class name)

-- the definitions that have a name, from a number on, as a choice
abbrev pub known_from : List Definition → Name → ℕ → Pattern
known_from [] n i = not_allowed
known_from (d ∷ ds) n i = if has_name d.class n then choice_of (ref i) (known_from ds n (i + 1)) else known_from ds n (i + 1)

-- the start of the frame that begins with a name
abbrev pub known : Language → Name → Pattern
known g n = known_from g.definitions n 0
