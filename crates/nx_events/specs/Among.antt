-- The faults among items, and the events, each in order.
use Rattle.std.specs.Prelude.{List, [], ◌∷◌}
use Rattle.std.specs.List.{flat_map}
use Rattle.nx_base.specs.declared.fault.Fault.{Fault}
use Rattle.nx_events.specs.declared.item.Event.{Event}
use Rattle.nx_events.specs.declared.item.Item.{Item}
use Rattle.nx_events.specs.declared.item.Item.TheVariants as items

-- the fault that an item is, if it is one
abbrev pub fault_in : Item → List Fault
fault_in (items.Event event span) = []
fault_in (items.Fault fault) = fault ∷ []

abbrev pub faults_among : List Item → List Fault
faults_among all = flat_map fault_in all

-- the event that it is
abbrev pub event_in : Item → List Event
event_in (items.Event event span) = event ∷ []
event_in (items.Fault fault) = []

abbrev pub events_among : List Item → List Event
events_among all = flat_map event_in all
