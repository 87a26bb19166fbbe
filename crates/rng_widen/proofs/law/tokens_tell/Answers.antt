use Rattle.rng_widen.proofs.Handing.{tokens_tell}
use Rattle.rng_widen.proofs.law.tokens_tell.Goals as goal

pub returns : goal.returns
returns c = tokens_tell
