-- A residual with one way more takes what it took, and what the way takes.
use Rattle.std.specs.Prelude.{◌⊎◌, List}
use Rattle.nx_base.specs.Trees.{Event}
use Rattle.rng_core.specs.Patterns.{Definition}
use Rattle.rng_kept.specs.Residuals.{Way, Residual, TakesWay, Takes}
use Rattle.rng_kept.specs.Merging.{with_way}

abbrev pub MergedTakeTheSame : Type 0
MergedTakeTheSame = (g : List Definition) (s : List Event) (x : Residual) (w : Way) →
    (Takes g (with_way x w) s → Takes g x s ⊎ TakesWay g w s) × (Takes g x s ⊎ TakesWay g w s → Takes g (with_way x w) s)
