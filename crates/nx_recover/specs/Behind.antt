-- Levels behind items: the frame that goes on, and the open elements.
use Rattle.std.specs.Prelude.{List, [], ◌∷◌, Option}
use Rattle.nx_base.specs.declared.fault.Fault.{Fault}
use Rattle.nx_base.specs.declared.fault.Span.{Span}
use Rattle.rng_core.specs.Patterns.{Language}
pub use Rattle.nx_events.specs.Items.{items_through}
use Rattle.nx_events.specs.declared.flaw.Flaw.{Flaw}
use Rattle.nx_events.specs.declared.item.Event.{Event}
use Rattle.nx_events.specs.declared.item.Item.{Item}
use Rattle.nx_events.specs.declared.item.Item.TheVariants as items
use Rattle.nx_recover.specs.Frames.{Frame}
use Rattle.nx_recover.specs.Nesting.{LevelsAfter}
use Rattle.nx_recover.specs.declared.levels.Open.{Open}

-- the frame here and the open elements behind items
pub data LevelsBehind (g : Language) :
    Option Frame → List (Open Frame) → List Item → Option Frame → List (Open Frame) → Type 0 where
  no_item : {here : Option Frame} {os : List (Open Frame)} → LevelsBehind g here os [] here os
  an_event : {here last : Option Frame} {os around : List (Open Frame)} {e : Event} {s : Span} {all : List Item}
      (next : Option Frame) (behind : List (Open Frame)) (w : Option Flaw)
      → LevelsAfter g here os e next behind w → LevelsBehind g next behind all last around
      → LevelsBehind g here os (items.Event e s ∷ all) last around
  a_fault : {here last : Option Frame} {os around : List (Open Frame)} {x : Fault} {all : List Item}
      → LevelsBehind g here os all last around → LevelsBehind g here os (items.Fault x ∷ all) last around
