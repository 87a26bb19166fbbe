use Rattle.rng_types.proofs.Blank.{blank_alike}
use Rattle.rng_types.proofs.laws.same_are_blank_alike.Goals as goal

pub returns : goal.returns
returns c = blank_alike
