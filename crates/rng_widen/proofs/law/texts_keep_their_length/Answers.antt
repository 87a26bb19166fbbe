use Rattle.rng_widen.proofs.Lengths.{texts_keep_their_length}
use Rattle.rng_widen.proofs.law.texts_keep_their_length.Goals as goal

pub returns : goal.returns
returns c = texts_keep_their_length
