-- What one turn of a refresh does, to the view at an index. The views are any values that have a state.
use Rattle.std.specs.Prelude.{◌≡◌, ℕ, ◌⊎◌, Bool, true, false, List, slice_index_or, slice_set, remove, Result, Ok, Err}
use Rattle.nx_base.specs.declared.fault.Fault.{Fault}
use Rattle.nx_base.specs.declared.memory.NoMemory.{NoMemory}
use Rattle.nx_views.specs.States.{ViewState}
use Rattle.nx_views.specs.Refreshed.{Shows, Holds, Fails}

-- the view at i is kept as something
pub record KeptAt {X : Type 0} (kept : X → X → Type 0) (old : List X) (i : ℕ) (new : List X) : Type 0 where
  pub was : X
  pub is : X
  pub read : was ≡ slice_index_or old i was
  pub written : new ≡ slice_set old i is
  pub keeps : kept was is

-- the view at i is dropped
pub record DroppedAt {X : Type 0} (dropped : X → Type 0) (old : List X) (i : ℕ) (new : List X) : Type 0 where
  pub was : X
  pub read : was ≡ slice_index_or old i was
  pub written : new ≡ remove old i
  pub why : dropped was

-- by the answer, whether the view is left
abbrev pub TurnedAt : {X : Type 0} → (X → ViewState) → List Fault → List X → ℕ → List X → Result Bool NoMemory → Type 0
TurnedAt state faults old i new (Ok true) = KeptAt (λ x y. Shows faults (state x) (state y)) old i new
TurnedAt state faults old i new (Ok false) = DroppedAt (λ x. Fails faults (state x)) old i new
TurnedAt state faults old i new (Err fault) =
    KeptAt (λ x y. Holds faults (state x) (state y)) old i new ⊎ DroppedAt (λ x. Fails faults (state x)) old i new
