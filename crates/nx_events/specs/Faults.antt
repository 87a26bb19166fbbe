-- Faults, and lists of them among items.
use Rattle.std.specs.Prelude.{List, [], ◌∷◌, map, Option, Some, None}
use Rattle.nx_base.specs.declared.fault.Fault.{Fault}
use Rattle.nx_base.specs.declared.fault.Span.{Span}
use Rattle.nx_base.specs.declared.fault.Kind.{Kind}
use Rattle.nx_events.specs.declared.flaw.Flaw.{Flaw}
use Rattle.nx_events.specs.declared.item.Item.{Item}
use Rattle.nx_events.specs.declared.item.Item.TheVariants as items

-- a fault without a detail
abbrev pub bare_fault : Kind → Span → Fault
bare_fault kind span = record { span = span; kind = kind; detail = [] }

-- a fault of what is wrong, at the span
abbrev pub fault_of : Span → Flaw → Fault
fault_of span flaw = record { span = span; kind = flaw.kind; detail = flaw.detail }

-- a fault of the kind, if there is one
abbrev pub bare_faults : Option Kind → Span → List Fault
bare_faults None span = []
bare_faults (Some kind) span = bare_fault kind span ∷ []

abbrev pub faults_as_items : List Fault → List Item
faults_as_items faults = map items.Fault faults
