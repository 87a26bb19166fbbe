-- What a refresh leaves of a list of views.
use Rattle.std.specs.Prelude.{◌≡◌, ℕ, ◌≤◌, ◌⊎◌, true, List, [], ◌∷◌, length, take}
use Rattle.nx_base.specs.declared.fault.Fault.{Fault}
use Rattle.nx_views.specs.States.{ViewState, AfterPuts}

-- the view lasts for n faults
pub record Lasts (n : ℕ) (view : ViewState) : Type 0 where
  pub lives : view.live ≡ true
  pub bears : (view.steady ≡ true) ⊎ (n ≤ view.room)

-- the views before, in order: each is kept as something, or was dropped
abbrev pub KeptOrDropped : {X : Type 0} → (X → X → Type 0) → (X → Type 0) → List X → List X → Type 0
KeptOrDropped kept dropped [] [] = Unit {0}
KeptOrDropped kept dropped [] (y ∷ ys) = ⊥
KeptOrDropped kept dropped (x ∷ xs) [] = dropped x × KeptOrDropped kept dropped xs []
KeptOrDropped kept dropped (x ∷ xs) (y ∷ ys) =
    (kept x y × KeptOrDropped kept dropped xs ys) ⊎ (dropped x × KeptOrDropped kept dropped xs (y ∷ ys))

-- a view that is left is live, shows the faults, and bore no more puts than there are faults
pub record Shows (faults : List Fault) (before behind : ViewState) : Type 0 where
  pub after : AfterPuts (length faults) before behind
  pub lives : behind.live ≡ true
  pub shows : behind.list ≡ faults

-- the faults are the first of these
abbrev pub IsFrontOf : List Fault → List Fault → Type 0
IsFrontOf front faults = (n : ℕ) × (front ≡ take n faults)

-- a view that is left where memory was wanting is live where it was, shows what it showed or the first of the faults, and bore no
-- more puts than there are faults
pub record Holds (faults : List Fault) (before behind : ViewState) : Type 0 where
  pub after : AfterPuts (length faults) before behind
  pub same_live : behind.live ≡ before.live
  pub shows : (behind.list ≡ before.list) ⊎ IsFrontOf behind.list faults

-- a view that was dropped didn't last for the faults
abbrev pub Fails : List Fault → ViewState → Type 0
Fails faults view = ¬ Lasts (length faults) view

-- what an accepted refresh leaves
abbrev pub Refreshed : List Fault → List ViewState → List ViewState → Type 0
Refreshed faults = KeptOrDropped (Shows faults) (Fails faults)

-- what a refresh leaves where memory was wanting
abbrev pub Starved : List Fault → List ViewState → List ViewState → Type 0
Starved faults = KeptOrDropped (Holds faults) (Fails faults)
