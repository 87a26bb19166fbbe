-- The contents that are kept are those of the schema, whatever comes behind.
use Rattle.std.specs.Prelude.{◌≡◌, List, map}
use Rattle.std.specs.Coded.{coded_list, Coded-set}
use Rattle.std.proofs.Math.Logic.{∥∥₁_elim, ∥∥₁_map}
use Rattle.std.proofs.Common.{◌∙◌}
use Rattle.rng_core.specs.Patterns.{Pattern, Definition}
use Rattle.deriv_nodes.specs.Codes.{pattern_code}
use Rattle.deriv_states.specs.Places.{Places, LaterPlaces, AreContents}

pub contents_of : (places : Places) (g : List Definition) → ∥ AreContents places g ∥₁ → AreContents places g
contents_of places g fits = ∥∥₁_elim fits (Coded-set (coded_list pattern_code) _ _) (λ h. h)

pub fits_later : (old new : Places) (g : List Definition) → LaterPlaces old new → ∥ AreContents old g ∥₁ → ∥ AreContents new g ∥₁
fits_later old new g later fits = ∥∥₁_map fits (λ h. later.contents ∙ h)
