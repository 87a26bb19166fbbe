use Rattle.rng_simplify.proofs.OneComposed.{piece_one}
use Rattle.rng_simplify.proofs.law.piece_is_one.Goals as goal

pub returns : goal.returns
returns c = piece_one c.joins_is_decided.ensures
