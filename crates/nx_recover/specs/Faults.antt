-- The faults of a text, against a schema or none.
use Rattle.std.specs.Prelude.{◌≡◌, ℕ, List, [], ◌∷◌, ◌++◌, Option, Some, None}
use Rattle.nx_base.specs.declared.fault.Fault.{Fault}
use Rattle.nx_base.specs.declared.fault.Span.{Span}
use Rattle.nx_events.specs.Among.{faults_among}
use Rattle.nx_events.specs.Faults.{fault_of}
use Rattle.nx_events.specs.Items.{items_of_text}
use Rattle.nx_events.specs.declared.flaw.Flaw.{Flaw}
use Rattle.nx_events.specs.declared.item.Event.{Event}
use Rattle.nx_events.specs.declared.item.Item.{Item}
use Rattle.nx_events.specs.declared.item.Item.TheVariants as items
use Rattle.rng_core.specs.Patterns.{Language}
use Rattle.nx_recover.specs.Frames.{Frame, document_frame}
use Rattle.nx_recover.specs.Nesting.{LevelsAfter}
use Rattle.nx_recover.specs.declared.levels.Open.{Open}

-- what is wrong, if anything is, at the span of its item
abbrev pub flaw_at : Span → Option Flaw → List Fault
flaw_at span None = []
flaw_at span (Some flaw) = fault_of span flaw ∷ []

-- the faults of these items, from the frame here and the open elements on: those among the items, and those of recovery, in the order in
-- which they arise
pub data Along (g : Language) : Option Frame → List (Open Frame) → List Item → List Fault → Type 0 where
  at_end : {here : Option Frame} {os : List (Open Frame)} → Along g here os [] []
  by_event : {here : Option Frame} {os : List (Open Frame)} {e : Event} {s : Span} {all : List Item} {faults : List Fault}
      (next : Option Frame) (behind : List (Open Frame)) (w : Option Flaw)
      → LevelsAfter g here os e next behind w → Along g next behind all faults
      → Along g here os (items.Event e s ∷ all) (flaw_at s w ++ faults)
  by_fault : {here : Option Frame} {os : List (Open Frame)} {x : Fault} {all : List Item} {faults : List Fault}
      → Along g here os all faults → Along g here os (items.Fault x ∷ all) (x ∷ faults)

-- without a schema those of characters, markup, nesting and namespaces alone: each element is lost without a fault
abbrev pub AreFaultsOf : Option Language → List ℕ → List Fault → Type 0
AreFaultsOf None text faults = faults ≡ faults_among (items_of_text text)
AreFaultsOf (Some g) text faults = Along g (Some (document_frame g)) [] (items_of_text text) faults
