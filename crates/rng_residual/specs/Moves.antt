-- The residuals that a matcher's calls answer with stand for the lists that are kept behind the calls' moves.
use Rattle.std.specs.Prelude.{◌≡◌, List, [], ◌++◌, ◌≤◌, true, false, Option, IsSome}
use Rattle.nx_base.specs.declared.name.Name.{Name}
use Rattle.nx_base.specs.Trees.{Event, Enter, Att, TagEnd, Chars, Leave, AreWritable}
use Rattle.rng_core.specs.Patterns.{Pattern, Definition, Language}
use Rattle.rng_core.specs.Validity.{Valid, Viable}
use Rattle.rng_kept.specs.Events.{IsAmong, IsText, AreText, IsDistinct}
use Rattle.rng_kept.specs.Moves.{Move, take, skip_to, any_value, any_string, missing_attributes, missing_content, attributes_of}
use Rattle.rng_kept.specs.Moves.{is_tag_open, open_elements}
use Rattle.rng_kept.specs.KeptLists.{IsRestOf, CanMove}
use Rattle.rng_kept.specs.SmallPatterns.{is_not_allowed}
use Rattle.rng_kept.specs.Residuals.{Residual, is_in_tag, Takes}
use Rattle.rng_kept.specs.Merging.{answered}
use Rattle.rng_kept.specs.Entering.{enter, enter_skip}
use Rattle.rng_kept.specs.Content.{chars, chars_any, leave, leave_skip}
use Rattle.rng_kept.specs.Tags.{attribute_of, attribute_any, tag_end, tag_end_missing}
use Rattle.rng_kept.specs.Live.{IsFrame, AreLive}
use Rattle.rng_kept.specs.Standing.{Stands, StandsBehind, first_residual, known, IsKnown}

-- what is left behind an event that the text itself goes on with
abbrev pub behind_event : List Definition → Event → Residual → Residual
behind_event g (Enter n) x = enter g n x
behind_event g (Att n v) x = attribute_of n v x
behind_event g TagEnd x = tag_end x
behind_event g (Chars t) x = chars t x
behind_event g Leave x = leave x

-- an attribute is a new one
abbrev pub IsNew : List Name → Event → Type 0
IsNew l (Enter n) = Unit {0}
IsNew l (Att n v) = IsAmong n l → ⊥
IsNew l TagEnd = Unit {0}
IsNew l (Chars t) = Unit {0}
IsNew l Leave = Unit {0}

-- what a frame begins with stands for no moves
abbrev pub FramesStand : Type 0
FramesStand = (g : Language) (p : Pattern) → IsFrame g p → Stands g p [] (first_residual p)

-- one line for each call of a matcher, and one for the five that take an event of the text
pub record MovesOf (g : Language) (p : Pattern) (h : List Move) (x : Residual) : Type 0 where
  pub event : (e : Event) → IsText e → IsNew (attributes_of h) e
      → StandsBehind g p h (take e) (answered (behind_event g.definitions e x))
  pub skip : (n : Name) → StandsBehind g p h (skip_to n) (answered (enter_skip g.definitions n x))
  pub value : (n : Name) → (IsAmong n (attributes_of h) → ⊥) → StandsBehind g p h (any_value n) (answered (attribute_any n x))
  pub string : StandsBehind g p h any_string (answered (chars_any x))
  pub attributes : StandsBehind g p h missing_attributes (answered (tag_end_missing x))
  pub content : StandsBehind g p h missing_content (answered (leave_skip x))

abbrev pub MovesStand : Type 0
MovesStand = (g : Language) → AreLive g.definitions → (p : Pattern) (h : List Move) (x : Residual) → Stands g p h x → MovesOf g p h x

-- the choice of the definitions with a name is notAllowed exactly where there is none
abbrev pub KnownIsTold : Type 0
KnownIsTold = (g : Language) (n : Name) →
    (is_not_allowed (known g n) ≡ false → IsKnown g n) × (IsKnown g n → is_not_allowed (known g n) ≡ false)

-- otherwise they begin a frame
abbrev pub KnownFramesBegin : Type 0
KnownFramesBegin = (g : Language) (n : Name) → AreLive g.definitions → IsKnown g n → IsFrame g (known g n)

-- what text begins and text makes valid can also be made valid by what can be written
abbrev pub FrontsAreViable : Type 0
FrontsAreViable = (g : Language) → AreLive g.definitions → (p : Pattern) → IsFrame g p → (k s : List Event) →
    AreText k → AreText s → Valid g.definitions p (k ++ s) → Viable g.definitions p k

-- some list of events that can be written is the rest of a kept list
pub record GoesOn (g : Language) (p : Pattern) (h : List Move) : Type 0 where
  pub rest : List Event
  pub is_rest_of : IsRestOf g p h rest

-- what stands for kept lists goes on
abbrev pub StandingGoesOn : Type 0
StandingGoesOn = (g : Language) (p : Pattern) (h : List Move) (x : Residual) → AreLive g.definitions → Stands g p h x → GoesOn g p h

-- an answer that stands behind a move is given exactly where the move can be made
abbrev pub AnswersTellMoves : Type 0
AnswersTellMoves = (g : Language) (p : Pattern) (h : List Move) (m : Move) (answer : Option Residual) → AreLive g.definitions
    → StandsBehind g p h m answer → (CanMove g p h m → IsSome answer) × (IsSome answer → CanMove g p h m)

-- of the lists that can be written and in which no tag repeats an attribute, what stands for moves takes exactly the rests of the
-- lists that they keep; and none that repeats an attribute is such a rest
abbrev pub RestsAreTaken : Type 0
RestsAreTaken = (g : Language) (p : Pattern) (h : List Move) (x : Residual) → Stands g p h x → (s : List Event) → AreWritable s
    → (IsRestOf g p h s → Takes g.definitions x s × IsDistinct (attributes_of h) s)
    × (Takes g.definitions x s → IsDistinct (attributes_of h) s → IsRestOf g p h s)

-- what is missing can always be made up for: attributes where a start tag is open, content where none is but an element
abbrev pub MissingPartsGoOn : Type 0
MissingPartsGoOn = (g : Language) (p : Pattern) (h : List Move) (x : Residual) → AreLive g.definitions → Stands g p h x →
    (is_tag_open h ≡ true → CanMove g p h missing_attributes)
    × (is_tag_open h ≡ false → 1 ≤ open_elements h → CanMove g p h missing_content)

-- the residual tells whether a start tag is open
abbrev pub TagsAreTold : Type 0
TagsAreTold = (g : Language) (p : Pattern) (h : List Move) (x : Residual) → AreLive g.definitions → Stands g p h x
    → is_in_tag x ≡ is_tag_open h
