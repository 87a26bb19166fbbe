use Rattle.rng_widen.proofs.Handing.{compact_none}
use Rattle.rng_widen.proofs.law.faults_tell_nothing.Goals as goal

pub returns : goal.returns
returns c = compact_none
