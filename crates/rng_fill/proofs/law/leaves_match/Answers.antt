use Rattle.rng_fill.proofs.Together.{leaves_match}
use Rattle.rng_fill.proofs.law.leaves_match.Goals as goal

pub returns : goal.returns
returns c = leaves_match
