use Rattle.rng_residual.proofs.Standing.{fronts_are_viable}
use Rattle.rng_residual.proofs.law.fronts_are_viable.Goals as goal

pub returns : goal.returns
returns c = fronts_are_viable
