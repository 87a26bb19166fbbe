-- Faults moved with the text that they stand in.
use Rattle.std.specs.Prelude.{ℕ, ◌+◌, List, map}
use Rattle.nx_base.specs.Text.{moved_place}
use Rattle.nx_base.specs.declared.edit.Edit.{Edit}
use Rattle.nx_base.specs.declared.fault.Fault.{Fault}
use Rattle.nx_base.specs.declared.fault.Span.{Span}

-- the fault with both ends of its span moved by an edit
abbrev pub moved_fault : Edit → Fault → Fault
moved_fault edit fault = record {
  span = record { from = moved_place fault.span.from edit; to = moved_place fault.span.to edit };
  kind = fault.kind;
  detail = fault.detail;
}

-- the span so many bytes farther on
abbrev pub placed_span : ℕ → Span → Span
placed_span distance span = record { from = distance + span.from; to = distance + span.to }

abbrev pub placed_fault : ℕ → Fault → Fault
placed_fault distance fault = record { span = placed_span distance fault.span; kind = fault.kind; detail = fault.detail }

abbrev pub placed : ℕ → List Fault → List Fault
placed distance faults = map (placed_fault distance) faults
