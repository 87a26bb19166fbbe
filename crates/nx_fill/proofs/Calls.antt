-- What calls ask for, and what they answer.
use Rattle.std.proofs.Common.{◌≡◌, ℕ, ◌+◌, ◌-◌, ◌<◌, ◌≤◌, Option, Some, None, List, [], ◌∷◌, ◌++◌, refl, sym, ap, subst, ◌∙◌}
use Rattle.std.proofs.Math.Logic.{∥∥₁_map}
use Rattle.nx_base.specs.Trees.{AreWritable}
use Rattle.nx_base.specs.declared.name.Name.{Name}
use Rattle.rng_core.specs.Patterns.{Language, Definition}
use Rattle.rng_fill.specs.Moves.{events_of}
use Rattle.rng_fill.specs.declared.moves.Move.{Move}
use Rattle.rng_kept.specs.Events.{IsAmong}
use Rattle.rng_kept.specs.Residuals.{Residual}
use Rattle.rng_rests.specs.Rests.{CanBegin, CanBeginSomehow, RestOf, IsSmallRest}
use Rattle.rng_rests.specs.declared.first.First.{First}
use Rattle.rng_rests.specs.declared.first.First.TheVariants as first
use Rattle.rng_rests.specs.declared.rest.Rest.{Rest}
use Rattle.rng_rests.specs.declared.rest.Rest.TheVariants as rest
use Rattle.nx_fill.specs.Going.{GoesOutside, GoesInTag}
use Rattle.nx_fill.proofs.Writable.{writable_by}

pub outside_begins : (g : Language) (x : Residual) (n : Name) → GoesOutside g (Some x) → CanBeginSomehow g.definitions x (first.Enter n)
outside_begins g x n h = ∥∥₁_map h (λ w. (w.0, record { lively = w.1.lively; used = w.1.used; new = tt }))

pub outside_leaves : (g : Language) (x : Residual) → GoesOutside g (Some x) → CanBeginSomehow g.definitions x first.Leave
outside_leaves g x h = ∥∥₁_map h (λ w. (w.0, record { lively = w.1.lively; used = w.1.used; new = tt }))

pub in_tag_begins : (g : Language) (others : List Name) (x : Residual) (n : Name) → GoesInTag g others (Some x) → (IsAmong n others → ⊥) → CanBeginSomehow g.definitions x (first.Att n)
in_tag_begins g others x n h new = ∥∥₁_map h (λ w. (w.0, record { lively = w.1.lively; used = w.1.used; new = λ i. new (w.2 n i) }))

-- a rest can be written
pub found_writable : (g : List Definition) (x : Residual) (f : First) (moves : List Move) → CanBeginSomehow g x f → ((l : List Name) → CanBegin g l x f → RestOf g l x f (rest.Found moves)) → AreWritable (events_of moves)
found_writable g x f moves some told = writable_by (events_of moves) some (λ w. (told w.0 w.1).rest.writable)
