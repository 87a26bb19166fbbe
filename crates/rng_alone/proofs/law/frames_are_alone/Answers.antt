use Rattle.rng_alone.proofs.Left.{frames_are_alone}
use Rattle.rng_alone.proofs.law.frames_are_alone.Goals as goal

pub returns : goal.returns
returns c p s = frames_are_alone p s
