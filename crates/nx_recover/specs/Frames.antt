-- Frames: what recovery knows of the events from an element on.
use Rattle.std.specs.Prelude.{◌↔◌, List, [], ◌∷◌, Option, Contains}
use Rattle.std.specs.List.Sorted.{IsStrictlySortedBy}
use Rattle.nx_base.specs.declared.name.Name.{Name}
use Rattle.nx_base.specs.Trees.{Enter}
use Rattle.rng_core.specs.Patterns.{Pattern, Language}
use Rattle.rng_kept.specs.Moves.{Move, take}
use Rattle.rng_kept.specs.KeptLists.{CanMove, IsRequired, IsNeeded}
use Rattle.rng_kept.specs.Standing.{known}
use Rattle.rng_live.specs.Order.{name_order}

-- the pattern with which a frame began, and its moves, the last one first
pub record Frame : Type 0 where
  pub start : Pattern
  pub moves : List Move

-- with one move more
abbrev pub moved : Frame → Move → Frame
moved f m = record { start = f.start; moves = m ∷ f.moves }

-- some list that is kept behind one move more is viable
abbrev pub Can : Language → Frame → Move → Type 0
Can g f m = CanMove g f.start f.moves m

-- the document's frame
abbrev pub document_frame : Language → Frame
document_frame g = record { start = g.start; moves = [] }

-- the frame of an element that may be of any definition with its name, behind the element's start
abbrev pub known_frame : Language → Name → Frame
known_frame g n = record { start = known g n; moves = take (Enter n) ∷ [] }

-- where a start tag is open: the names of which each list of attributes, behind which the tag may end, has one, in order
pub record AreRequiredNames (g : Language) (f : Frame) (names : List Name) : Type 0 where
  pub sorted : IsStrictlySortedBy name_order names
  pub exact : (n : Name) → Contains names n ↔ IsRequired g f.start f.moves n

-- where content is skipped up to an element of the name, or, without one, up to the end of the element around: the names of which
-- each content that can stand there has an element, in order
pub record AreNeededNames (g : Language) (f : Frame) (skip : Option Name) (names : List Name) : Type 0 where
  pub sorted : IsStrictlySortedBy name_order names
  pub exact : (n : Name) → Contains names n ↔ IsNeeded g f.start f.moves skip n
