use Rattle.rng_widen.proofs.Held.{types_are_checked}
use Rattle.rng_widen.proofs.law.types_are_checked_by_held_ones.Goals as goal

pub returns : goal.returns
returns c = types_are_checked
