-- Levels over the states of a matcher, and what these mean.
use Rattle.std.specs.Prelude.{◌≡◌, ◌+◌, ◌≤◌, List, ◌++◌, length, take, map, reverse, vec_len, vec_capacity}
use Rattle.std.specs.Prelude.{Option, IfSome, option_map, unwrap_or}
use Rattle.std.specs.List.{AllByRecursion}
use Rattle.rng_kept.specs.Residuals.{Residual}
use Rattle.nx_recover.specs.Table.{Form}
use Rattle.nx_recover.specs.declared.levels.Open.{Open}
use Rattle.nx_recover.specs.declared.levels.Open.TheVariants.{In, Begins, Lost}
use Rattle.nx_recover.specs.declared.levels.Levels.{Levels}
use Rattle.nx_recover.specs.declared.levels.Change.{Change}
use Rattle.nx_recover.specs.declared.levels.Turn.{Turn}
use Rattle.nx_recover.specs.declared.levels.Begun.{Begun}
use Rattle.nx_recover.specs.declared.levels.Ended.{Ended}

-- the state here, and the open elements, the innermost last
pub record View (S : Type 0) : Type 0 where
  pub here : Option S
  pub elements : List (Open S)

abbrev pub view_of : {S : Type 0} → Levels S → View S
view_of l = record { here = l.here; elements = l.elements.items }

-- the levels with a change
abbrev pub changed_view : {S : Type 0} → View S → Change S → View S
changed_view v c = record { here = unwrap_or c.here v.here; elements = take c.kept v.elements ++ c.above.items }

abbrev pub changed : {S : Type 0} → Levels S → Change S → View S
changed l c = changed_view (view_of l) c

-- there is room for what is new
abbrev pub HasRoom : {S : Type 0} → Levels S → Change S → Type 0
HasRoom l c = vec_len l.elements + vec_len c.above ≤ vec_capacity l.elements

-- ---- what holds of each state

abbrev pub IsOpen : {S : Type 0} → (S → Type 0) → Open S → Type 0
IsOpen P (In n) = Unit {0}
IsOpen P (Begins n around) = IfSome around P
IsOpen P (Lost around) = IfSome around P

pub record AreStates {S : Type 0} (P : S → Type 0) (v : View S) : Type 0 where
  pub here : IfSome v.here P
  pub elements : AllByRecursion (IsOpen P) v.elements

-- a change of levels whose states are states
pub record IsChange {S : Type 0} (P : S → Type 0) (l : Levels S) (c : Change S) : Type 0 where
  pub kept : c.kept ≤ length l.elements.items
  pub states : AreStates P (changed l c)

-- ---- what they mean

abbrev pub open_form : {S : Type 0} → (S → Residual) → Open S → Open Residual
open_form f (In n) = In n
open_form f (Begins n around) = Begins n (option_map f around)
open_form f (Lost around) = Lost (option_map f around)

-- the open elements, the innermost first
unfoldable pub stack : {S : Type 0} → (S → Residual) → List (Open S) → List (Open Residual)
stack f l = reverse (map (open_form f) l)

abbrev pub form : {S : Type 0} → (S → Residual) → View S → Form
form f v = record { here = option_map f v.here; elements = stack f v.elements }

-- ---- answers over states, and what they mean

pub record TurnIs {S : Type 0} (P : S → Type 0) (f : S → Residual) (m : Turn Residual) (t : Turn S) : Type 0 where
  pub state : IfSome t.next P
  pub meaning : option_map f t.next ≡ m.next
  pub flaw : t.flaw ≡ m.flaw

pub record BegunIs {S : Type 0} (P : S → Type 0) (f : S → Residual) (m : Begun Residual) (b : Begun S) : Type 0 where
  pub here : IfSome b.here P
  pub meaning : option_map f b.here ≡ m.here
  pub state : IsOpen P b.element
  pub element : open_form f b.element ≡ m.element
  pub flaw : b.flaw ≡ m.flaw

pub record EndedIs {S : Type 0} (P : S → Type 0) (f : S → Residual) (m : Ended Residual) (e : Ended S) : Type 0 where
  pub state : IfSome e.here P
  pub meaning : option_map f e.here ≡ m.here
  pub flaw : e.flaw ≡ m.flaw
