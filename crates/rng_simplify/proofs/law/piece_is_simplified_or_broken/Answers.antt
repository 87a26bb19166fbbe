use Rattle.rng_simplify.proofs.Exact.{simplified_or_broken}
use Rattle.rng_simplify.proofs.law.piece_is_simplified_or_broken.Goals as goal

pub returns : goal.returns
returns c = simplified_or_broken
