use Rattle.std.proofs.Common.{◌≡◌, [], sym, ap, subst, ◌∙◌}
use Rattle.rng_kept.specs.Residuals.{Residual}
use Rattle.rng_kept.specs.Merging.{stepped}
use Rattle.deriv_plain.specs.Order.{AreInOrder}
use Rattle.deriv_pattern.specs.Steps.{way_step}
use Rattle.deriv_plain.specs.Ways.{residual_of}
use Rattle.deriv_plain.proofs.Steady.{stepped_in_order, step_in_order}
use Rattle.deriv_plain.proofs.plain.given.Goals as goal

pub returns : goal.returns
returns c =
    let meaning : residual_of c.from_vec.result ≡ stepped (way_step c.args.step.now) [] (residual_of c.args.ways.now) =
    ap residual_of c.from_vec.ensures ∙ (c.in_ok-stepped.ensures ∙ ap (λ ws. stepped (way_step c.args.step.now) [] (residual_of ws)) c.as_slice.ensures) in
    let left = c.left_is_in_order.ensures in
    record {
      state = subst (λ (x : Residual). AreInOrder x) (sym meaning)
          (stepped_in_order left (way_step c.args.step.now) (step_in_order left c.args.step.now c.requires.step) [] (residual_of c.args.ways.now) tt c.requires.ways);
      meaning = meaning;
    }
