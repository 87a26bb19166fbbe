-- Levels behind items: the frames that go on, here and around, and what is left for them.
use Rattle.std.specs.Prelude.{◌≡◌, ◌↔◌, ℕ, suc, true, false, List, [], ◌∷◌, ◌++◌, map, Option, Some, None, IsSome}
use Rattle.std.specs.Str.{IsUtf8}
use Rattle.nx_base.specs.Rules.{lexeme_of}
use Rattle.nx_base.specs.Running.{after_all}
use Rattle.nx_base.specs.Tokens.{tokens_of}
use Rattle.nx_base.specs.declared.fault.Span.{Span}
use Rattle.nx_base.specs.declared.name.Name.{Name}
use Rattle.nx_base.specs.declared.token.Token.{Token}
use Rattle.rng_core.specs.Patterns.{Language}
use Rattle.rng_kept.specs.Events.{IsAmong}
use Rattle.rng_kept.specs.Live.{IsLive}
use Rattle.rng_kept.specs.Moves.{Move, attributes_of, is_tag_open, open_elements}
use Rattle.rng_kept.specs.Residuals.{Residual}
use Rattle.rng_kept.specs.Standing.{Stands}
use Rattle.nx_events.specs.Items.{first_state, items_of_text}
use Rattle.nx_events.specs.declared.item.Event.{Event}
use Rattle.nx_events.specs.declared.item.Event.TheVariants.{Enter, EnterLost, Att, TagEnd, Chars, Leave}
use Rattle.nx_events.specs.declared.item.Item.{Item}
use Rattle.nx_events.specs.declared.item.Item.TheVariants as items
pub use Rattle.nx_recover.specs.Behind.{LevelsBehind, no_item, an_event, a_fault, items_through}
use Rattle.nx_recover.specs.Frames.{Frame, document_frame}
use Rattle.nx_recover.specs.RecoverRules.{first_levels, levels_behind, recover_rules}
use Rattle.nx_recover.specs.Table.{Form}
use Rattle.nx_recover.specs.declared.levels.Open.{Open}
use Rattle.nx_recover.specs.declared.levels.Open.TheVariants.{In, Begins, Lost}

-- ---- the frames

-- the innermost open element is lost
abbrev pub IsLostInside : List (Open Frame) → Type 0
IsLostInside [] = ⊥
IsLostInside (In n ∷ os) = ⊥
IsLostInside (Begins n around ∷ os) = ⊥
IsLostInside (Lost around ∷ os) = Unit {0}

-- ---- the names of the attributes so far where a start tag is open, and none elsewhere

-- a tag with one attribute more
abbrev pub with_attribute : Option (List Name) → Name → Option (List Name)
with_attribute None n = None
with_attribute (Some l) n = Some (n ∷ l)

abbrev pub tag_after : Option (List Name) → Event → Option (List Name)
tag_after tag (Enter n) = Some []
tag_after tag EnterLost = Some []
tag_after tag (Att n v) = with_attribute tag n
tag_after tag TagEnd = None
tag_after tag (Chars t) = None
tag_after tag Leave = None

abbrev pub tag_behind : Option (List Name) → List Item → Option (List Name)
tag_behind tag [] = tag
tag_behind tag (items.Event e s ∷ all) = tag_behind (tag_after tag e) all
tag_behind tag (items.Fault x ∷ all) = tag_behind tag all

-- ---- what is left for the frames

-- how many of the open elements belong to the frame here
abbrev pub own_elements : List (Open Frame) → ℕ
own_elements [] = 0
own_elements (In n ∷ os) = suc (own_elements os)
own_elements (Begins n around ∷ os) = 1
own_elements (Lost around ∷ os) = 0

-- a start tag is open exactly where one is, and its attributes among the moves are among those of the text
abbrev pub IsOfTag : Option (List Name) → List Move → Type 0
IsOfTag None h = is_tag_open h ≡ false
IsOfTag (Some l) h = (is_tag_open h ≡ true) × ((n : Name) → IsAmong n (attributes_of h) → IsAmong n l)

-- what is left stands for the moves of a frame, of whose elements so many are open
pub record StandsFor (g : Language) (tag : Option (List Name)) (depth : ℕ) (f : Frame) (x : Residual) : Type 0 where
  pub stands : Stands g f.start f.moves x
  pub opened : open_elements f.moves ≡ depth
  pub of_tag : IsOfTag tag f.moves

-- nothing is left exactly where there is no frame
pub data StandsHere (g : Language) (tag : Option (List Name)) (depth : ℕ) : Option Frame → Option Residual → Type 0 where
  lost_here : StandsHere g tag depth None None
  frame_here : {f : Frame} {x : Residual} → StandsFor g tag depth f x → StandsHere g tag depth (Some f) (Some x)

-- elements of one kind, and of one name; the frames around go on outside of tags
pub data StandsOpen (g : Language) (depth : ℕ) : Open Frame → Open Residual → Type 0 where
  stands_in : {n : Name} → StandsOpen g depth (In n) (In n)
  stands_begins : {n : Name} {o : Option Frame} {x : Option Residual} → StandsHere g None depth o x
      → StandsOpen g depth (Begins n o) (Begins n x)
  stands_lost : {o : Option Frame} {x : Option Residual} → StandsHere g None depth o x → StandsOpen g depth (Lost o) (Lost x)

pub data StandAround (g : Language) : List (Open Frame) → List (Open Residual) → Type 0 where
  none_around : StandAround g [] []
  one_around : {o : Open Frame} {os : List (Open Frame)} {x : Open Residual} {xs : List (Open Residual)}
      → StandsOpen g (own_elements os) o x → StandAround g os xs → StandAround g (o ∷ os) (x ∷ xs)

-- ---- the laws

-- levels over residuals tell those that the document's frame comes to behind items
pub record TellLevels (g : Language) (front : List Item) (l : Form) : Type 0 where
  pub here : Option Frame
  pub elements : List (Open Frame)
  pub behind : LevelsBehind g (Some (document_frame g)) [] front here elements
  pub inside : StandsHere g (tag_behind None front) (own_elements elements) here l.here
  pub around : StandAround g elements l.elements
  pub lost : here ≡ None ↔ IsLostInside elements

-- of a live schema, those that the rules over residuals have behind items of a text
abbrev pub LevelsAreTold : Type 0
LevelsAreTold = (g : Language) → IsLive g → (text : List ℕ) → IsUtf8 text →
    (front rest : List Item) → items_of_text text ≡ front ++ rest →
    TellLevels g front (levels_behind (Some g) (first_levels (Some g)) front)

-- so do those that a state of the machine means, behind tokens of a text
abbrev pub StatesTellLevels : Type 0
StatesTellLevels = (g : Language) → IsLive g → (text : List ℕ) → IsUtf8 text →
    (front rest : List Token) → tokens_of text ≡ front ++ rest →
    let rules = recover_rules (Some g) in
    TellLevels g (items_through first_state front) (after_all rules rules.first (map lexeme_of front)).levels

-- there is one frame here, and one list of open elements, behind items
abbrev pub LevelsAreOne : Type 0
LevelsAreOne = (g : Language) (here one other : Option Frame) (os around others : List (Open Frame)) (all : List Item) →
    LevelsBehind g here os all one around → LevelsBehind g here os all other others → (one ≡ other) × (around ≡ others)

-- an element is open, and it is one of the frame here, or it is lost
abbrev pub CanEnd : Option Frame → List (Open Frame) → Type 0
CanEnd here [] = ⊥
CanEnd here (In n ∷ os) = IsSome here
CanEnd here (Begins n around ∷ os) = IsSome here
CanEnd here (Lost around ∷ os) = Unit {0}

-- in front of each end of an element in a text
abbrev pub EndsAreOfElements : Type 0
EndsAreOfElements = (g : Language) (text : List ℕ) (front rest : List Item) (s : Span) →
    items_of_text text ≡ front ++ (items.Event Leave s ∷ rest) → (here : Option Frame) (os : List (Open Frame)) →
    LevelsBehind g (Some (document_frame g)) [] front here os → CanEnd here os
