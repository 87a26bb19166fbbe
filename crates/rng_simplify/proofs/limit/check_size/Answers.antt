use Rattle.std.proofs.Common.{map, ap, ◌∙◌}
use Rattle.std.proofs.lemmas.List.{get_or_read}
use Rattle.std.proofs.lemmas.Result.{err_from_is_err_and}
use Rattle.rng_simplify.specs.Cells.{cell_of}
use Rattle.rng_simplify.specs.Limits.{content_of}
use Rattle.rng_simplify.proofs.Limiting.{few_counted, one_more_counted, one_too_large, all_counted}
use Rattle.rng_simplify.proofs.limit.check_size.Goals as goal

pub counted-requires-in-loop-element-clause-few : goal.counted-requires-in-loop-element-clause-few
counted-requires-in-loop-element-clause-few c = few_counted _ _ _ _ _ c.loop-element.invariant

pub returns-in_err-count-2 : goal.returns-in_err-count-2
returns-in_err-count-2 c =
    let p = err_from_is_err_and c.from_residual-in_err-count-2.result c.from_residual-in_err-count-2.ensures.1 in
    rw (p.1, p.2) (one_too_large _ _ _ _ _ c.loop-element-test.true _ _ _ (c.content.ensures ∙ ap (content_of (map cell_of c.args.nodes.now)) (get_or_read c.args.elements.now c.loop-element.element-index c.element-item.result c.loop-element-test.true c.element-item.is 0)) c.loop-element.invariant c.in_err-count-2.ensures)

pub loop-element-preserved : goal.loop-element-preserved
loop-element-preserved c = λ taken. one_more_counted _ _ _ _ _ c.loop-element-test.true taken _ _ _ (c.content.ensures ∙ ap (content_of (map cell_of c.args.nodes.now)) (get_or_read c.args.elements.now c.loop-element.element-index c.element-item.result c.loop-element-test.true c.element-item.is 0)) (c.loop-element.invariant taken) (c.in_ok-count-2.ensures _ taken)

pub returns : goal.returns
returns c = all_counted _ _ _ _ _ _ c.loop-element-test.false c.loop-element.invariant
