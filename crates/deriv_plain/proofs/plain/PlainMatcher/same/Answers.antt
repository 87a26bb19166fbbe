use Rattle.std.proofs.Common.{List, ap, ◌∙◌}
use Rattle.deriv_plain.specs.declared.ways.OneWay.{OneWay}
use Rattle.deriv_plain.specs.Sameness.{same_residual}
use Rattle.deriv_plain.specs.Ways.{residual_of}
use Rattle.deriv_plain.proofs.Alike.{residuals_told}
use Rattle.deriv_plain.proofs.plain.PlainMatcher.same.Goals as goal

pub returns : goal.returns
returns c = residuals_told (residual_of c.args.a.now) (residual_of c.args.b.now) c.same_ways.result
    (c.same_ways.ensures ∙ (ap (λ (x : List OneWay). same_residual (residual_of x) (residual_of c.as_slice-2.result.now)) c.as_slice.ensures
    ∙ ap (λ (y : List OneWay). same_residual (residual_of c.args.a.now) (residual_of y)) c.as_slice-2.ensures))
