use Rattle.rng_fill.proofs.OneWay.{filled_in_one_way}
use Rattle.rng_fill.proofs.law.filled_in_one_way.Goals as goal

pub returns : goal.returns
returns c = filled_in_one_way
