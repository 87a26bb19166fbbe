-- Whether two residuals are put together alike, as an answer.
use Rattle.std.specs.Prelude.{[], ◌∷◌, Bool, true, false, ◌&&◌}
use Rattle.rng_core.specs.Equality.{same_pattern}
use Rattle.rng_kept.specs.Residuals.{Way, among, in_tag, Residual}
use Rattle.rng_kept.specs.Merging.{same_outer}

abbrev pub same_way : Way → Way → Bool
same_way (among o) (among u) = same_outer o u
same_way (among o) (in_tag q u) = false
same_way (in_tag p o) (among u) = false
same_way (in_tag p o) (in_tag q u) = same_pattern p q && same_outer o u

abbrev pub same_residual : Residual → Residual → Bool
same_residual [] [] = true
same_residual [] (v ∷ vs) = false
same_residual (w ∷ ws) [] = false
same_residual (w ∷ ws) (v ∷ vs) = same_way w v && same_residual ws vs
