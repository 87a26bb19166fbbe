-- What an event does to the open elements, with the frame that goes on here and those that go on around it.
use Rattle.std.specs.Prelude.{ℕ, List, [], ◌∷◌, Option, Some, None}
use Rattle.nx_base.specs.declared.name.Name.{Name}
use Rattle.nx_base.specs.Trees as trees
use Rattle.rng_core.specs.Patterns.{Language}
use Rattle.rng_kept.specs.Standing.{IsKnown}
use Rattle.nx_events.specs.declared.flaw.Flaw.{Flaw}
use Rattle.nx_events.specs.declared.item.Event.{Event}
use Rattle.nx_events.specs.declared.item.Event.TheVariants.{Enter, EnterLost, Att, TagEnd, Chars, Leave}
use Rattle.nx_recover.specs.Frames.{Frame, known_frame}
use Rattle.nx_recover.specs.Outcomes.{goes_on, begins_frame, loses, Recovers, EndsElement}
use Rattle.nx_recover.specs.declared.levels.Open.{Open}
use Rattle.nx_recover.specs.declared.levels.Open.TheVariants.{In, Begins, Lost}

-- the frame here, none in a lost element, and the open elements, the innermost first, before and behind an event. A frame goes on in
-- its elements and behind them; the frame around one that begins its own, or is lost, goes on behind that one's end
pub data LevelsAfter (g : Language) : Option Frame → List (Open Frame) → Event → Option Frame → List (Open Frame) → Option Flaw
    → Type 0 where
  -- ---- in a frame, by its table
  enters : {f k : Frame} {os : List (Open Frame)} {n : Name} {w : Option Flaw} → Recovers g f (trees.Enter n) (goes_on k) w
      → LevelsAfter g (Some f) os (Enter n) (Some k) (In n ∷ os) w
  enters_own : {f : Frame} {os : List (Open Frame)} {n : Name} {w : Option Flaw} → Recovers g f (trees.Enter n) begins_frame w
      → LevelsAfter g (Some f) os (Enter n) (Some (known_frame g n)) (Begins n (Some f) ∷ os) w
  enters_unknown : {f : Frame} {os : List (Open Frame)} {n : Name} {w : Option Flaw} → Recovers g f (trees.Enter n) loses w
      → LevelsAfter g (Some f) os (Enter n) None (Lost (Some f) ∷ os) w
  attribute : {f k : Frame} {os : List (Open Frame)} {n : Name} {v : List ℕ} {w : Option Flaw} → Recovers g f (trees.Att n v) (goes_on k) w
      → LevelsAfter g (Some f) os (Att n v) (Some k) os w
  tag_end : {f k : Frame} {os : List (Open Frame)} {w : Option Flaw} → Recovers g f trees.TagEnd (goes_on k) w
      → LevelsAfter g (Some f) os TagEnd (Some k) os w
  text : {f k : Frame} {os : List (Open Frame)} {t : List ℕ} {w : Option Flaw} → Recovers g f (trees.Chars t) (goes_on k) w
      → LevelsAfter g (Some f) os (Chars t) (Some k) os w
  leaves : {f k : Frame} {os : List (Open Frame)} {n : Name} {w : Option Flaw} → EndsElement g f n k w
      → LevelsAfter g (Some f) (In n ∷ os) Leave (Some k) os w
  -- its own element ends, and so does the frame
  leaves_own : {f k : Frame} {os : List (Open Frame)} {n : Name} {around : Option Frame} {w : Option Flaw} → EndsElement g f n k w
      → LevelsAfter g (Some f) (Begins n around ∷ os) Leave around os w
  -- ---- in a lost element nothing has a fault
  enters_known : {os : List (Open Frame)} {n : Name} → IsKnown g n
      → LevelsAfter g None os (Enter n) (Some (known_frame g n)) (Begins n None ∷ os) None
  enters_lost : {os : List (Open Frame)} {n : Name} → (IsKnown g n → ⊥) → LevelsAfter g None os (Enter n) None (Lost None ∷ os) None
  attribute_lost : {os : List (Open Frame)} {n : Name} {v : List ℕ} → LevelsAfter g None os (Att n v) None os None
  tag_end_lost : {os : List (Open Frame)} → LevelsAfter g None os TagEnd None os None
  text_lost : {os : List (Open Frame)} {t : List ℕ} → LevelsAfter g None os (Chars t) None os None
  -- ---- anywhere: an element without a name is lost; a lost one ends
  loses_nameless : {here : Option Frame} {os : List (Open Frame)} → LevelsAfter g here os EnterLost None (Lost here ∷ os) None
  leaves_lost : {here around : Option Frame} {os : List (Open Frame)} → LevelsAfter g here (Lost around ∷ os) Leave around os None
  -- ---- what no text comes to: an end without an element, and one of a frame that isn't here
  leaves_nothing : {here : Option Frame} → LevelsAfter g here [] Leave here [] None
  leaves_nowhere : {os : List (Open Frame)} {n : Name} → LevelsAfter g None (In n ∷ os) Leave None os None
  leaves_own_nowhere : {os : List (Open Frame)} {n : Name} {around : Option Frame}
      → LevelsAfter g None (Begins n around ∷ os) Leave around os None
