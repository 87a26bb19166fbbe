use Rattle.rng_more_types.proofs.Candidates.{candidates_are_literals, candidates_differ}
use Rattle.rng_more_types.proofs.laws.candidates_exist.Goals as goal

pub returns : goal.returns
returns c = record { literals = candidates_are_literals; differ = candidates_differ }
