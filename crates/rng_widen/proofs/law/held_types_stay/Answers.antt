use Rattle.rng_widen.proofs.Held.{held_types_stay}
use Rattle.rng_widen.proofs.law.held_types_stay.Goals as goal

pub returns : goal.returns
returns c = held_types_stay
