use Rattle.rng_simplify.proofs.Walking.{made_is_well_formed}
use Rattle.rng_simplify.proofs.law.made_is_well_formed.Goals as goal

pub returns : goal.returns
returns c = made_is_well_formed
