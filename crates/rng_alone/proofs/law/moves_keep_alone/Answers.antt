use Rattle.rng_alone.proofs.Left.{moves_keep_alone}
use Rattle.rng_alone.proofs.law.moves_keep_alone.Goals as goal

pub returns : goal.returns
returns c g live a l x i u = moves_keep_alone g live a l x i u
