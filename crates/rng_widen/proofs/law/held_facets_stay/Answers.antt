use Rattle.rng_widen.proofs.Held.{held_facets_stay}
use Rattle.rng_widen.proofs.law.held_facets_stay.Goals as goal

pub returns : goal.returns
returns c = held_facets_stay
