use Rattle.rng_types.proofs.Same.{equality_is_decided}
use Rattle.rng_types.proofs.laws.equality_is_decided.Goals as goal

pub returns : goal.returns
returns c = equality_is_decided
