use Rattle.rng_names.proofs.Left.{moves_use_names}
use Rattle.rng_names.proofs.law.moves_use_names.Goals as goal

pub returns : goal.returns
returns c g a l x u = moves_use_names g a l x u
