use Rattle.rng_residual.proofs.Restricted.{restricted_is_apart}
use Rattle.rng_residual.proofs.law.restricted_is_apart.Goals as goal

pub returns : goal.returns
returns c = restricted_is_apart
