use Rattle.rng_core.proofs.Same.{equality_is_decided}
use Rattle.rng_core.proofs.law.equality_is_decided.Goals as goal

pub returns : goal.returns
returns c = equality_is_decided
