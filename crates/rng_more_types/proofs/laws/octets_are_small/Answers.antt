use Rattle.rng_more_types.proofs.Small.{octets_are_small}
use Rattle.rng_more_types.proofs.laws.octets_are_small.Goals as goal

pub returns : goal.returns
returns c = octets_are_small
