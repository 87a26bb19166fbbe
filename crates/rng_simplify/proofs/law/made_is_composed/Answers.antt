use Rattle.rng_simplify.proofs.OnePiece.{made_is_composed}
use Rattle.rng_simplify.proofs.law.made_is_composed.Goals as goal

pub returns : goal.returns
returns c = made_is_composed
