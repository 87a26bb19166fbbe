-- What stands under a later matcher: states are states, and mean the same.
use Rattle.std.proofs.Common.{◌≡◌, List, [], ◌∷◌, map, reverse, Option, Some, None, refl, ap}
use Rattle.std.specs.Prelude.{IfSome, option_map}
use Rattle.std.specs.List.{AllByRecursion}
use Rattle.nx_base.specs.Rules.{LaterLaws}
use Rattle.rng_core.specs.Patterns.{Language}
use Rattle.rng_kept.specs.Residuals.{Residual}
use Rattle.nx_recover.specs.States.{View, IsOpen, AreStates, open_form, stack, form, changed, IsChange}
use Rattle.nx_recover.specs.declared.levels.Open.{Open}
use Rattle.nx_recover.specs.declared.levels.Open.TheVariants.{In, Begins, Lost}
use Rattle.nx_recover.specs.declared.levels.Levels.{Levels}
use Rattle.nx_recover.specs.declared.levels.Change.{Change}

module _ {D S : Type 0} {later : D → D → Type 0} {is_state : D → S → Type 0} {means : D → S → Residual} {language : D → Language}
    (laws : LaterLaws later is_state means language) {a b : D} (on : later a b) where
  some_later : (o : Option S) → IfSome o (is_state a) → IfSome o (is_state b)
  some_later None h = tt
  some_later (Some s) h = laws.state a b s on h

  some_same : (o : Option S) → IfSome o (is_state a) → option_map (means b) o ≡ option_map (means a) o
  some_same None h = refl
  some_same (Some s) h = ap Some (laws.meaning a b s on h)

  open_later : (o : Open S) → IsOpen (is_state a) o → IsOpen (is_state b) o
  open_later (In n) h = tt
  open_later (Begins n o) h = some_later o h
  open_later (Lost o) h = some_later o h

  open_same : (o : Open S) → IsOpen (is_state a) o → open_form (means b) o ≡ open_form (means a) o
  open_same (In n) h = refl
  open_same (Begins n o) h = ap (λ x. Begins n x) (some_same o h)
  open_same (Lost o) h = ap (λ x. Lost x) (some_same o h)

  all_later : (l : List (Open S)) → AllByRecursion (IsOpen (is_state a)) l → AllByRecursion (IsOpen (is_state b)) l
  all_later [] h = tt
  all_later (o ∷ os) h = (open_later o h.0, all_later os h.1)

  all_same : (l : List (Open S)) → AllByRecursion (IsOpen (is_state a)) l → map (open_form (means b)) l ≡ map (open_form (means a)) l
  all_same [] h = refl
  all_same (o ∷ os) h = let e = open_same o h.0 in let es = all_same os h.1 in cc

  stack_same : (l : List (Open S)) → AllByRecursion (IsOpen (is_state a)) l → stack (means b) l ≡ stack (means a) l
  unfolding stack
  stack_same l h = ap reverse (all_same l h)

  pub states_later : (v : View S) → AreStates (is_state a) v → AreStates (is_state b) v
  states_later v h = record { here = some_later v.here h.here; elements = all_later v.elements h.elements }

  pub form_same : (v : View S) → AreStates (is_state a) v → form (means b) v ≡ form (means a) v
  form_same v h = let e = some_same v.here h.here in let f = stack_same v.elements h.elements in cc

  pub stack_of_same : (v : View S) → AreStates (is_state a) v → stack (means b) v.elements ≡ stack (means a) v.elements
  stack_of_same v h = stack_same v.elements h.elements

  pub change_later : (l : Levels S) (c : Change S) → IsChange (is_state a) l c → IsChange (is_state b) l c
  change_later l c h = record { kept = h.kept; states = states_later (changed l c) h.states }
