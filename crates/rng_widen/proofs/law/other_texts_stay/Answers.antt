use Rattle.rng_widen.proofs.Lengths.{other_texts_stay}
use Rattle.rng_widen.proofs.law.other_texts_stay.Goals as goal

pub returns : goal.returns
returns c = other_texts_stay
