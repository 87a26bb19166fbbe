-- That what is left goes on: what rests are asked of. Private contracts alone speak of this.
use Rattle.std.specs.Prelude.{List, Option, Some, None}
use Rattle.nx_base.specs.declared.name.Name.{Name}
use Rattle.rng_core.specs.Patterns.{Language}
use Rattle.rng_kept.specs.Events.{IsAmong}
use Rattle.rng_kept.specs.Lively.{Lively}
use Rattle.rng_kept.specs.Residuals.{Residual}
use Rattle.rng_names.specs.Left.{UseNames}

-- with attributes of these names in the open tag
pub record GoesWith (g : Language) (l : List Name) (x : Residual) : Type 0 where
  pub lively : Lively g.definitions l x
  pub used : UseNames l x

abbrev pub GoesOutside : Language → Option Residual → Type 0
GoesOutside g None = Unit {0}
GoesOutside g (Some x) = ∥ ((l : List Name) × GoesWith g l x) ∥₁

-- with some of these names
abbrev pub GoesInTag : Language → List Name → Option Residual → Type 0
GoesInTag g others None = Unit {0}
GoesInTag g others (Some x) = ∥ ((l : List Name) × GoesWith g l x × ((n : Name) → IsAmong n l → IsAmong n others)) ∥₁
