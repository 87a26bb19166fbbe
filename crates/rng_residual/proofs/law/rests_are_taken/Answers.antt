use Rattle.rng_residual.proofs.Standing.{rests_are_taken}
use Rattle.rng_residual.proofs.law.rests_are_taken.Goals as goal

pub returns : goal.returns
returns c = rests_are_taken
