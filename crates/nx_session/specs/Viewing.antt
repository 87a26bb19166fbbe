-- Views: what commands leave of them, and the commands on one of them. A view is named by its number in the list, from 0.
use Rattle.std.specs.Prelude.{◌≡◌, ℕ, ◌<◌, ◌≤◌, ◌⊎◌, List, length, map, Some, slice_get}
use Rattle.nx_base.specs.declared.edit.Edit.{Edit}
use Rattle.nx_base.specs.declared.fault.Fault.{Fault}
use Rattle.nx_recover.specs.Faults.{AreFaultsOf}
use Rattle.nx_script.specs.Replies.{FaultsAreText}
use Rattle.nx_script.specs.declared.reply.Reply.{Reply}
use Rattle.nx_script.specs.declared.reply.Reply.TheVariants.{Silent, Errors, Shown, Refused}
use Rattle.nx_script.specs.declared.reply.Refusal.TheVariants.{NoView, NoMemory}
use Rattle.nx_session.specs.Editor.{EditorState, edit_of, schema_of}
use Rattle.nx_views.specs.Refreshed.{Refreshed, Starved}
use Rattle.nx_views.specs.States.{ViewState, closed_at, moved_view}
use Rattle.std.specs.List.{AllByRecursion}

-- an edit that is done moves what the views show with the text
abbrev pub MovesViews : Edit → List ViewState → Reply → List ViewState → Type 0
MovesViews edit before Silent behind = behind ≡ map (moved_view edit) before
MovesViews edit before reply behind = behind ≡ before

-- the edit that puts the new text in the place of the whole old one
abbrev pub whole_edit : EditorState → EditorState → Edit
whole_edit old new = edit_of 0 (length old.text) new.text

-- the views are shown the faults that are listed, and those that took them are left. Where memory was wanting, they are as before, or
-- some of them were shown the faults of the text, or a part of these
abbrev pub ShowsViews : EditorState → List ViewState → Reply → List ViewState → Type 0
ShowsViews old before (Errors faults) behind = Refreshed faults before behind
ShowsViews old before (Refused NoMemory) behind =
    (behind ≡ before)
    ⊎ ((faults : List Fault) × AreFaultsOf (schema_of old) old.text faults × Starved faults before behind)
ShowsViews old before reply behind = ⊥

-- the faults that this view shows are the reply
abbrev pub ViewStep : ℕ → List ViewState → Reply → List ViewState → Type 0
ViewStep index before (Shown number faults) behind =
    (number ≡ index) × ((view : ViewState) × (slice_get before index ≡ Some view) × (faults ≡ view.list)) × (behind ≡ before)
ViewStep index before (Refused (NoView number)) behind = (number ≡ index) × (length before ≤ index) × (behind ≡ before)
ViewStep index before (Refused NoMemory) behind = (index < length before) × (behind ≡ before)
ViewStep index before reply behind = ⊥

-- this view isn't live from now on; this takes no memory
abbrev pub CloseStep : ℕ → List ViewState → Reply → List ViewState → Type 0
CloseStep index before Silent behind = (index < length before) × (behind ≡ closed_at index before)
CloseStep index before (Refused (NoView number)) behind = (number ≡ index) × (length before ≤ index) × (behind ≡ before)
CloseStep index before reply behind = ⊥

-- the details of the faults that views show are UTF-8
abbrev pub ViewsAreText : List ViewState → Type 0
ViewsAreText views = AllByRecursion (λ (view : ViewState). FaultsAreText view.list) views
