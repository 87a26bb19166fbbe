use Rattle.std.proofs.Common.{◌≡◌, ◌++◌, ◌∷◌, [], length}
use Rattle.rnc_parse.specs.Reading.{loop_at}
use Rattle.rnc_parse.specs.ReadingParts.{param_at, goes_on}
use Rattle.rnc_parse.proofs.part.all_params.Given as goal

abbrev pub invariant-params : goal.invariant-params
invariant-params l = loop_at goes_on param_at (λ params param. params ++ param ∷ []) l.params l.cursor ≡ loop_at goes_on param_at (λ params param. params ++ param ∷ []) [] l.fn.cursor

abbrev pub decreases-params : goal.decreases-params
decreases-params l = length l.cursor
