use Rattle.rng_simplify.proofs.Denoted.{well_formed_denotes}
use Rattle.rng_simplify.proofs.law.well_formed_denotes.Goals as goal

pub returns : goal.returns
returns c = well_formed_denotes
