-- The first way of what is left.
use Rattle.std.specs.Prelude.{◌≡◌, List, ◌∷◌}
use Rattle.std.proofs.Common.{ap, ◌∙◌}
use Rattle.rng_kept.specs.Residuals.{Way}
use Rattle.deriv_plain.specs.declared.ways.OneWay.{OneWay}
use Rattle.deriv_plain.specs.Ways.{way_of, residual_of}

pub first_way : (left rest : List OneWay) (way : OneWay) (w : Way) → left ≡ way ∷ rest → way_of way ≡ w → residual_of left ≡ w ∷ residual_of rest
first_way left rest way w split is = ap residual_of split ∙ ap (λ v. v ∷ residual_of rest) is
