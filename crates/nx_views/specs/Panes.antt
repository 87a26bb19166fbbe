-- What the panes are to a contract.
use Rattle.std.specs.Prelude.{◌≡◌, ◌⊎◌, true, false, [], ℕ}
use Rattle.nx_views.specs.States.{ViewState}
use Rattle.nx_views.specs.declared.pane.FaultPane.{FaultPane}
use Rattle.nx_views.specs.declared.pane.LimitedPane.{LimitedPane}
use Rattle.nx_views.specs.declared.pane.RefusingPane.{RefusingPane}

-- a steady view
abbrev pub fault_pane : FaultPane → ViewState
fault_pane pane = record { list = pane.faults; live = pane.is_live; steady = true; room = 0 }

-- a view that bears so many more puts, and closes at the next
abbrev pub limited_pane : LimitedPane → ViewState
limited_pane pane = record (fault_pane pane.pane) { steady = false; room = pane.room }

-- a steady view
abbrev pub refusing_pane : RefusingPane → ViewState
refusing_pane pane = fault_pane pane.pane

-- a live view that shows nothing, steady or with room for so many puts
abbrev pub new_pane : ViewState
new_pane = record { list = []; live = true; steady = true; room = 0 }

abbrev pub new_limited_pane : ℕ → ViewState
new_limited_pane limit = record { list = []; live = true; steady = false; room = limit }

-- a limited view takes no put more: it isn't live, or has no room
abbrev pub BearsNone : ViewState → Type 0
BearsNone view = (view.live ≡ false) ⊎ (view.room ≡ 0)
