-- Recovery's table: what an event does in a frame, and the fault that it has. One line for each row.
use Rattle.std.specs.Prelude.{ℕ, List, [], Option, Some, None}
use Rattle.nx_base.specs.declared.name.Name.{Name}
use Rattle.nx_base.specs.declared.fault.Kind.{Kind}
use Rattle.nx_base.specs.declared.fault.Kind.TheVariants as kinds
use Rattle.nx_base.specs.Trees.{Event, Enter, Att, TagEnd, Chars, Leave}
use Rattle.rng_core.specs.Patterns.{Language}
use Rattle.rng_kept.specs.Moves.{take, skip_to, any_value, any_string, missing_attributes, missing_content}
use Rattle.rng_kept.specs.Standing.{IsKnown}
use Rattle.nx_events.specs.declared.flaw.Flaw.{Flaw}
use Rattle.nx_base.specs.PrintedNames.{name_text}
use Rattle.nx_recover.specs.Details.{names_text, needs_text}
use Rattle.nx_recover.specs.Frames.{Frame, moved, Can, AreRequiredNames, AreNeededNames}

pub data Outcome : Type 0 where
  -- the frame goes on as this one
  goes_on : Frame → Outcome
  -- the element is left out of the frame, and begins one of its own
  begins_frame : Outcome
  -- it is left out, and nothing is known of it
  loses : Outcome

-- a fault without its span
abbrev pub flaw : Kind → List ℕ → Option Flaw
flaw kind detail = Some (record { kind = kind; detail = detail })

-- an event that isn't the end of an element
pub data Recovers (g : Language) (f : Frame) : Event → Outcome → Option Flaw → Type 0 where
  -- some kept list followed by the event is viable
  admitted : {e : Event} → Can g f (take e) → Recovers g f e (goes_on (moved f (take e))) None
  -- elements are missing in front of it
  not_yet : {n : Name} (names : List Name) → (Can g f (take (Enter n)) → ⊥) → Can g f (skip_to n) → AreNeededNames g f (Some n) names
      → Recovers g f (Enter n) (goes_on (moved f (skip_to n))) (flaw kinds.NotYet (needs_text n names))
  -- a definition has the name
  not_allowed : {n : Name} → (Can g f (take (Enter n)) → ⊥) → (Can g f (skip_to n) → ⊥) → IsKnown g n
      → Recovers g f (Enter n) begins_frame (flaw kinds.NotAllowed (name_text n))
  unknown : {n : Name} → (Can g f (take (Enter n)) → ⊥) → (Can g f (skip_to n) → ⊥) → (IsKnown g n → ⊥)
      → Recovers g f (Enter n) loses (flaw kinds.Unknown (name_text n))
  -- another value would be admitted
  bad_value : {n : Name} {v : List ℕ} → (Can g f (take (Att n v)) → ⊥) → Can g f (any_value n)
      → Recovers g f (Att n v) (goes_on (moved f (any_value n))) (flaw kinds.BadValue (name_text n))
  -- the attribute is left out
  unknown_attribute : {n : Name} {v : List ℕ} → (Can g f (take (Att n v)) → ⊥) → (Can g f (any_value n) → ⊥)
      → Recovers g f (Att n v) (goes_on f) (flaw kinds.UnknownAttribute (name_text n))
  lacks_attributes : (names : List Name) → (Can g f (take TagEnd) → ⊥) → AreRequiredNames g f names
      → Recovers g f TagEnd (goes_on (moved f missing_attributes)) (flaw kinds.MissingAttributes (names_text names))
  -- another text, which isn't blank, would be admitted
  bad_text : {t : List ℕ} → (Can g f (take (Chars t)) → ⊥) → Can g f any_string
      → Recovers g f (Chars t) (goes_on (moved f any_string)) (flaw kinds.BadValue [])
  -- the text is left out
  text_not_allowed : {t : List ℕ} → (Can g f (take (Chars t)) → ⊥) → (Can g f any_string → ⊥)
      → Recovers g f (Chars t) (goes_on f) (flaw kinds.TextNotAllowed [])

-- the end of the innermost element, which has this name
pub data EndsElement (g : Language) (f : Frame) (n : Name) : Frame → Option Flaw → Type 0 where
  complete : Can g f (take Leave) → EndsElement g f n (moved f (take Leave)) None
  incomplete : (names : List Name) → (Can g f (take Leave) → ⊥) → AreNeededNames g f None names
      → EndsElement g f n (moved f missing_content) (flaw kinds.Incomplete (needs_text n names))
