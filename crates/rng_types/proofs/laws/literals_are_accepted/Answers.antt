use Rattle.rng_types.proofs.MoreAccepted.{accepts_literals}
use Rattle.rng_types.proofs.laws.literals_are_accepted.Goals as goal

pub returns : goal.returns
returns c = accepts_literals
