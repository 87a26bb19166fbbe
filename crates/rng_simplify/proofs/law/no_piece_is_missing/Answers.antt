use Rattle.rng_simplify.proofs.Walking.{no_piece_is_missing}
use Rattle.rng_simplify.proofs.law.no_piece_is_missing.Goals as goal

pub returns : goal.returns
returns c = no_piece_is_missing
