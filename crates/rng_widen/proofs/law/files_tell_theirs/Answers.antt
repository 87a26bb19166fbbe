use Rattle.rng_widen.proofs.Handing.{files_tell_theirs}
use Rattle.rng_widen.proofs.law.files_tell_theirs.Goals as goal

pub returns : goal.returns
returns c = files_tell_theirs
