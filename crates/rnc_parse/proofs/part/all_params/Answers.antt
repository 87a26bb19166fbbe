use Rattle.std.proofs.Common.{◌++◌, ◌∷◌, [], sym, ◌∙◌}
use Rattle.std.proofs.lemmas.Result.{err_from_is_err_and}
use Rattle.rnc_parse.specs.ReadingParts.{goes_on, param_at, all_params_at}
use Rattle.rnc_parse.proofs.Finding.{loop_fails, loop_next, loop_over}
use Rattle.rnc_parse.proofs.Shortening.{param_shortens}
use Rattle.rnc_parse.proofs.part.all_params.Goals as goal

pub returns-in_err-param : goal.returns-in_err-param
unfolding all_params_at
returns-in_err-param c =
    let p = err_from_is_err_and c.from_residual.result c.from_residual.ensures.1 in
    rw (p.1, p.2)
    (loop_fails goes_on param_at (λ params param. params ++ param ∷ []) c.params.params c.params.cursor (all_params_at c.args.cursor.now) c.in_err-param.field-0.0 param_shortens (sym c.goes_on.ensures ∙ c.params-test.true) c.params.invariant c.in_err-param.ensures)

pub params-smaller : goal.params-smaller
params-smaller c =
    param_shortens.shorter c.params.cursor (sym c.goes_on.ensures ∙ c.params-test.true) _ c.param.new.cursor c.in_ok-param.ensures

pub params-preserved : goal.params-preserved
params-preserved c =
    loop_next goes_on param_at (λ params param. params ++ param ∷ []) c.params.params c.push.new.self _ c.params.cursor c.param.new.cursor _ param_shortens (sym c.goes_on.ensures ∙ c.params-test.true) c.in_ok-param.ensures (sym c.in_ok-push.ensures.ok) c.params.invariant

pub returns : goal.returns
unfolding all_params_at
returns c = loop_over goes_on param_at (λ params param. params ++ param ∷ []) c.params.params c.params.cursor _ (sym c.goes_on.ensures ∙ c.params-test.false) c.params.invariant
