use Rattle.rng_types.specs.Rows.{row_of}
use Rattle.rng_types.proofs.Made.{facets_made}
use Rattle.rng_types.proofs.datatype.Datatype.named.Goals as goal

pub returns-clause-made : goal.returns-clause-made
returns-clause-made c = facets_made (row_of c.in-Some.row) c.args.library.now c.args.name.now c.args.params.now c.in_ok-facets.facets c.in-Some.ensures c.in_ok-facets.ensures
