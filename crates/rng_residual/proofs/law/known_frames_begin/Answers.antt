use Rattle.rng_residual.proofs.Known.{known_is_told, known_frames_begin}
use Rattle.rng_residual.proofs.law.known_frames_begin.Goals as goal

pub returns-clause-told : goal.returns-clause-told
returns-clause-told c = known_is_told

pub returns-clause-begin : goal.returns-clause-begin
returns-clause-begin c = known_frames_begin
