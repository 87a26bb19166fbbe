-- What is kept aside: one open element more or less, and what an event makes of it.
use Rattle.std.specs.Prelude.{◌≡◌, ◌-◌, ◌≤◌, List, [], ◌∷◌, ◌++◌, length, take, Option, Some, None}
use Rattle.rng_kept.specs.Residuals.{Residual}
use Rattle.nx_events.specs.declared.flaw.Flaw.{Flaw}
use Rattle.nx_recover.specs.Table.{Done}
use Rattle.nx_recover.specs.States.{changed, form, IsChange}
use Rattle.nx_recover.specs.declared.levels.Levels.{Levels}
use Rattle.nx_recover.specs.declared.levels.Change.{Change}
use Rattle.nx_recover.specs.declared.levels.Begun.{Begun}

-- one element more, where c is the change before and d the one behind
pub record Pushed {S : Type 0} (b : Begun S) (c d : Change S) (o : Option Flaw) : Type 0 where
  pub here : d.here ≡ Some b.here
  pub kept : d.kept ≡ c.kept
  pub above : d.above.items ≡ c.above.items ++ b.element ∷ []
  pub flaw : o ≡ b.flaw

-- of elements the innermost of which stands last, those around it
abbrev pub without_innermost : {X : Type 0} → List X → List X
without_innermost xs = take (length xs - 1) xs

-- the innermost of them, none of none
abbrev pub IsInnermost : {X : Type 0} → List X → Option X → Type 0
IsInnermost xs None = xs ≡ []
IsInnermost xs (Some x) = xs ≡ without_innermost xs ++ x ∷ []

-- one open element less
pub record IsOneLess {S : Type 0} (l : Levels S) (c d : Change S) : Type 0 where
  pub here : d.here ≡ c.here
  pub kept : d.kept ≤ c.kept
  pub elements : (changed l d).elements ≡ without_innermost (changed l c).elements

-- the change and the flaw are those of an event
pub record Takes {S : Type 0} (P : S → Type 0) (f : S → Residual) (l : Levels S) (c : Change S) (d : Done) (o : Option Flaw) : Type 0 where
  pub change : IsChange P l c
  pub form : form f (changed l c) ≡ d.form
  pub flaw : o ≡ d.flaw
