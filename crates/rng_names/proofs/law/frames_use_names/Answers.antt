use Rattle.rng_names.proofs.Left.{frames_use_names}
use Rattle.rng_names.proofs.law.frames_use_names.Goals as goal

pub returns : goal.returns
returns c l p = frames_use_names l p
