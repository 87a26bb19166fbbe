use Rattle.nx_recovery.proofs.Viability.{frames_stay_viable}
use Rattle.nx_recovery.proofs.law.frames_stay_viable.Goals as goal

pub returns : goal.returns
returns c = frames_stay_viable
