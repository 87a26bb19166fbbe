-- Kept lists: the lists of events that moves keep behind the start of a frame, and how these go on.
use Rattle.std.specs.Prelude.{◌≡◌, ℕ, List, [], ◌∷◌, ◌++◌, Option, Some, None}
use Rattle.nx_base.specs.declared.name.Name.{Name}
use Rattle.nx_base.specs.Trees.{Attribute, HasAttribute, Children, string, element, AreChildren, Event, Enter, TagEnd, Leave}
use Rattle.nx_base.specs.Trees.{attributes_flat, children_flat, AreWritable}
use Rattle.rng_core.specs.Patterns.{Pattern, Language}
use Rattle.rng_core.specs.Validity.{Valid, IsRest, Viable}
use Rattle.rng_kept.specs.Moves.{Move, take, skip_to, any_value, any_string, missing_attributes, missing_content, Adds}

-- a list that a move makes, but for one that ends with the text's own event, is to be viable
abbrev pub Asks : Language → Pattern → Move → List Event → Type 0
Asks g p (take e) k = Unit {0}
Asks g p (skip_to n) k = Viable g.definitions p k
Asks g p (any_value n) k = Viable g.definitions p k
Asks g p any_string k = Viable g.definitions p k
Asks g p missing_attributes k = Viable g.definitions p k
Asks g p missing_content k = Viable g.definitions p k

-- the lists that are kept behind moves, the last move first: behind none the empty list alone
abbrev pub Kept : Language → Pattern → List Move → List Event → Type 0
Kept g p [] k = k ≡ []
Kept g p (m ∷ h) k = (before added : List Event) × Kept g p h before × Adds m added × (k ≡ before ++ added) × Asks g p m k

-- what can be written behind a kept list so that it is valid
pub record IsRestOf (g : Language) (p : Pattern) (h : List Move) (s : List Event) : Type 0 where
  pub kept : List Event
  pub is_kept : Kept g p h kept
  pub is_rest : IsRest g.definitions p kept s

-- the same of any characters: what the text itself may go on with
pub record IsEndOf (g : Language) (p : Pattern) (h : List Move) (s : List Event) : Type 0 where
  pub kept : List Event
  pub is_kept : Kept g p h kept
  pub valid : Valid g.definitions p (kept ++ s)

-- no kept list is viable
abbrev pub NoneIsViable : Language → Pattern → List Move → Type 0
NoneIsViable g p h = (s : List Event) → IsRestOf g p h s → ⊥

-- where a start tag is open: each list of attributes behind which it may end has one of this name
abbrev pub IsRequired : Language → Pattern → List Move → Name → Type 0
IsRequired g p h n = (a : List Attribute) (k : List Event) → AreWritable (attributes_flat a []) → Kept g p h k
    → Viable g.definitions p (k ++ attributes_flat a (TagEnd ∷ [])) → HasAttribute n a

-- one of the children is an element of this name; what stands inside of elements doesn't count
pub data HasChild (n : Name) : Children → Type 0 where
  this_element : {m : Name} {a : List Attribute} {k rest : Children} → m ≡ n → HasChild n (element m a k rest)
  behind_element : {m : Name} {a : List Attribute} {k rest : Children} → HasChild n rest → HasChild n (element m a k rest)
  behind_string : {t : List ℕ} {rest : Children} → HasChild n rest → HasChild n (string t rest)

-- the event up to which content is skipped: the start of an element of this name, or, without one, the end of the element around
abbrev pub skip_end : Option Name → Event
skip_end (Some m) = Enter m
skip_end None = Leave

-- the move that skips it
abbrev pub skip_move : Option Name → Move
skip_move (Some m) = skip_to m
skip_move None = missing_content

-- where content is skipped: each content that can stand between a kept list and that event has an element of this name
abbrev pub IsNeeded : Language → Pattern → List Move → Option Name → Name → Type 0
IsNeeded g p h skip n = (over : Children) (k : List Event) → AreChildren over → AreWritable (children_flat over []) → Kept g p h k
    → Viable g.definitions p (k ++ children_flat over (skip_end skip ∷ [])) → HasChild n over

-- some list that is kept behind one move more is viable. An event is admitted where that is so of the text's own event
pub record CanMove (g : Language) (p : Pattern) (h : List Move) (m : Move) : Type 0 where
  pub kept : List Event
  pub is_kept : Kept g p (m ∷ h) kept
  pub viable : Viable g.definitions p kept
