use Rattle.rng_alone.proofs.Pruning.{pruning_keeps_alone}
use Rattle.rng_alone.proofs.law.pruning_keeps_alone.Goals as goal

pub returns : goal.returns
returns c g numbers p r w a = pruning_keeps_alone g numbers p r w a
