-- What fills what is left of a way is a rest.
use Rattle.std.specs.Prelude.{◌≡◌, ℕ, List, ◌++◌}
use Rattle.nx_base.specs.Trees.{Event, AreWritable}
use Rattle.nx_base.specs.declared.name.Name.{Name}
use Rattle.rng_core.specs.Patterns.{Definition}
use Rattle.rng_kept.specs.Events.{IsDistinct}
use Rattle.rng_kept.specs.Lively.{IsLively}
use Rattle.rng_kept.specs.Residuals.{Way, TakesWay}
use Rattle.rng_fill.specs.declared.moves.Move.{Move}
use Rattle.rng_fill.specs.Moves.{events_of}
use Rattle.rng_names.specs.Left.{WayUsesNames}
use Rattle.rng_rests.specs.Rests.{AreApart}
use Rattle.rng_finish.specs.declared.left.Left.{Left}
use Rattle.rng_finish.specs.Left.{IsLeftOf}
use Rattle.rng_finish.specs.Filled.{FillsLeft}
use Rattle.rng_finish.specs.Fit.{FitsLeft}

-- events that a way takes and that can be written, behind a tag with attributes of these names
pub record IsWayRest (g : List Definition) (l : List Name) (w : Way) (s : List Event) : Type 0 where
  pub takes : TakesWay g w s
  pub writable : AreWritable s
  pub apart : AreApart s
  pub distinct : IsDistinct l s

-- moves of such events were added
pub record AddsRest (g : List Definition) (l : List Name) (w : Way) (old new : List Move) : Type 0 where
  pub added : List Move
  pub is : new ≡ old ++ added
  pub rest : IsWayRest g l w (events_of added)

-- what fills the patterns that are left of a way, by whichever costs, is a rest of it: the leaves of each pattern are matched by what
-- they are filled with, and no attribute has a name of these
abbrev pub FilledAreRests : Type 0
FilledAreRests = (g : List Definition) (costs : List ℕ) (l : List Name) (w : Way) (left : Left) (old new : List Move) → WayUsesNames l w
    → IsLeftOf w left → FillsLeft g costs left old new → AddsRest g l w old new

-- what is left of a lively way can be asked for leaves
abbrev pub LivelyAreFit : Type 0
LivelyAreFit = (g : List Definition) (costs : List ℕ) (l : List Name) (w : Way) (left : Left) → IsLively g l w → WayUsesNames l w
    → IsLeftOf w left → FitsLeft g costs left
