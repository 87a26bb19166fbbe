-- What a view is to a contract.
use Rattle.std.specs.Prelude.{◌≡◌, ℕ, zero, suc, ◌+◌, ◌≤◌, Bool, true, false, List, [], ◌∷◌, map}
use Rattle.nx_base.specs.Shifting.{moved_fault}
use Rattle.nx_base.specs.declared.edit.Edit.{Edit}
use Rattle.nx_base.specs.declared.fault.Fault.{Fault}

pub record ViewState : Type 0 where
  -- the faults that it shows
  pub list : List Fault
  -- it takes faults
  pub live : Bool
  -- only by being closed it stops being live
  pub steady : Bool
  -- it bears at least so many more puts
  pub room : ℕ

-- the view, but that it shows this list
abbrev pub showing : List Fault → ViewState → ViewState
showing list view = record view { list = list }

-- the view, but that it isn't live
abbrev pub closed : ViewState → ViewState
closed view = record view { live = false }

-- the views, but that the one of this number isn't live
abbrev pub closed_at : ℕ → List ViewState → List ViewState
closed_at i [] = []
closed_at zero (view ∷ views) = closed view ∷ views
closed_at (suc i) (view ∷ views) = view ∷ closed_at i views

-- the view, but that its faults moved with the text
abbrev pub moved_view : Edit → ViewState → ViewState
moved_view edit view = showing (map (moved_fault edit) view.list) view

-- what at most n puts leave of a view, whatever it shows
pub record AfterPuts (n : ℕ) (before behind : ViewState) : Type 0 where
  pub dead : before.live ≡ false → behind.live ≡ false
  pub stays : before.steady ≡ true → behind.live ≡ before.live
  pub same : behind.steady ≡ before.steady
  pub lasts : before.live ≡ true → n ≤ before.room → behind.live ≡ true
  pub fell : before.room ≤ behind.room + n
  pub rose : behind.room ≤ before.room
