-- Moves: the text's own events, and what stands in for events that a schema doesn't admit.
use Rattle.std.specs.Prelude.{◌≡◌, ℕ, suc, ◌-◌, Bool, true, false, List, [], ◌∷◌, IsTrue}
use Rattle.std.specs.List.{AllByRecursion}
use Rattle.nx_base.specs.declared.name.Name.{Name}
use Rattle.nx_base.specs.Characters.{is_blank, is_of_chars}
use Rattle.nx_base.specs.Trees.{Attribute, Children, AreChildren, Event, Enter, Att, TagEnd, Chars, Leave, children_flat, attributes_flat}
use Rattle.nx_base.specs.Trees.{AreWritable}
use Rattle.rng_kept.specs.Events.{IsText}

pub data Move : Type 0 where
  -- an event of the text
  take : Event → Move
  -- content that is left out, and the start of an element of this name
  skip_to : Name → Move
  -- an attribute of this name, whatever its value
  any_value : Name → Move
  -- a string that isn't blank, whichever
  any_string : Move
  -- attributes that are left out, and the end of the start tag
  missing_attributes : Move
  -- content that is left out, and the end of the element
  missing_content : Move

-- what a move may add to a list of events: all that can be written, but for the text's own event
pub data Adds : Move → List Event → Type 0 where
  adds_event : {e : Event} → Adds (take e) (e ∷ [])
  adds_skipped : {n : Name} (over : Children) → AreChildren over → AreWritable (children_flat over [])
      → Adds (skip_to n) (children_flat over (Enter n ∷ []))
  adds_value : {n : Name} (v : List ℕ) → IsTrue (is_of_chars v) → Adds (any_value n) (Att n v ∷ [])
  adds_string : (t : List ℕ) → IsTrue (is_of_chars t) → is_blank t ≡ false → Adds any_string (Chars t ∷ [])
  adds_attributes : (a : List Attribute) → AreWritable (attributes_flat a []) → Adds missing_attributes (attributes_flat a (TagEnd ∷ []))
  adds_content : (over : Children) → AreChildren over → AreWritable (children_flat over [])
      → Adds missing_content (children_flat over (Leave ∷ []))

-- the attributes of the tag that is open behind moves, the last move first
abbrev pub attributes_after : List Name → Move → List Name
attributes_after l (take (Att n v)) = n ∷ l
attributes_after l (any_value n) = n ∷ l
attributes_after l _ = []

abbrev pub attributes_of : List Move → List Name
attributes_of [] = []
attributes_of (m ∷ h) = attributes_after (attributes_of h) m

-- whether a start tag is open behind moves
abbrev pub is_tag_open : List Move → Bool
is_tag_open [] = false
is_tag_open (take (Enter n) ∷ h) = true
is_tag_open (take (Att n v) ∷ h) = true
is_tag_open (skip_to n ∷ h) = true
is_tag_open (any_value n ∷ h) = true
is_tag_open (_ ∷ h) = false

-- how many elements are open behind moves
abbrev pub open_elements : List Move → ℕ
open_elements [] = 0
open_elements (take (Enter n) ∷ h) = suc (open_elements h)
open_elements (skip_to n ∷ h) = suc (open_elements h)
open_elements (take Leave ∷ h) = open_elements h - 1
open_elements (missing_content ∷ h) = open_elements h - 1
open_elements (_ ∷ h) = open_elements h

-- the text's own events among moves have strings of UTF-8
abbrev pub IsTextMove : Move → Type 0
IsTextMove (take e) = IsText e
IsTextMove (skip_to n) = Unit {0}
IsTextMove (any_value n) = Unit {0}
IsTextMove any_string = Unit {0}
IsTextMove missing_attributes = Unit {0}
IsTextMove missing_content = Unit {0}

abbrev pub AreTextMoves : List Move → Type 0
AreTextMoves h = AllByRecursion IsTextMove h
