use Rattle.rng_finish.proofs.Rests.{filled_are_rests}
use Rattle.rng_finish.proofs.law.filled_are_rests.Goals as goal

pub returns : goal.returns
returns c = filled_are_rests c.leaves_match.ensures
