use Rattle.rng_types.specs.Rows.{row_of}
use Rattle.rng_types.specs.Naming.{facet_of, range_of}
use Rattle.rng_types.proofs.FacetList.{filter_map_more}
use Rattle.rng_types.proofs.naming.facets_of.Goals as goal

pub loop-param-preserved : goal.loop-param-preserved
loop-param-preserved c =
    filter_map_more (facet_of (row_of c.args.row.now)) (range_of (row_of c.args.row.now)) c.loop-param.facets c.push_param.new.facets c.args.params.now c.loop-param.param-index c.param-item.result
    c.loop-param-test.true c.param-item.is c.loop-param.invariant c.in_ok-push_param.ensures
