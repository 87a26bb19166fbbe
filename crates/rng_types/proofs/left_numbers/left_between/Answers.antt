use Rattle.std.proofs.Common.{sym, ◌∙◌}
use Rattle.rng_types.proofs.Tried.{none_of}
use Rattle.rng_types.proofs.NumbersLeft.{bound_at, limit_decimal, no_room, one_facet_more, none_in, all_taken, fails_as}
use Rattle.rng_types.proofs.left_numbers.left_between.Goals as goal

pub left_beyond-requires-in-loop-facet-clause-base : goal.left_beyond-requires-in-loop-facet-clause-base
left_beyond-requires-in-loop-facet-clause-base c =
    limit_decimal c.facet-item.result c.limit_of.result.now (bound_at c.args.facets.now c.loop-facet.facet-index c.facet-item.result c.requires.bounds c.loop-facet-test.true c.facet-item.is) c.limit_of.ensures

pub loop-facet-init : goal.loop-facet-init
loop-facet-init c = none_in c.args.facets.now c.args.excepts.now c.longest_limit-zeros.result

pub loop-facet-preserved : goal.loop-facet-preserved
loop-facet-preserved c =
    one_facet_more c.args.facets.now c.args.excepts.now c.longest_limit-zeros.result c.loop-facet.facet-index c.facet-item.result c.limit_of.result.now c.loop-facet-test.true c.facet-item.is c.loop-facet.invariant c.limit_of.ensures
    (none_of c.in_ok-found.found _ _ (sym c.is_some-in-loop-facet.ensures ∙ c.if-is_some-3.false) c.in_ok-found.ensures)

pub returns : goal.returns
returns c =
    no_room c.longest_limit-zeros.result c.args.facets.now c.args.excepts.now c.requires.bounds c.longest_limit-zeros.ensures c.requires.few c.requires.room
    (fails_as c.args.facets.now c.args.excepts.now c.longest_limit-zeros.result _ _ c.as_bytes.ensures.value (none_of c.in_ok-above.above _ _ (sym c.is_some.ensures ∙ c.if-is_some.false) c.in_ok-above.ensures))
    (fails_as c.args.facets.now c.args.excepts.now c.longest_limit-zeros.result _ _ c.as_bytes-2.ensures.value (none_of c.in_ok-below.below _ _ (sym c.is_some-2.ensures ∙ c.if-is_some-2.false) c.in_ok-below.ensures))
    (all_taken c.args.facets.now c.args.excepts.now c.longest_limit-zeros.result c.loop-facet.facet-index c.loop-facet-test.false c.loop-facet.invariant)
