use Rattle.rng_widen.proofs.Trimmed.{trimmed_is}
use Rattle.rng_widen.proofs.name.trimmed.Goals as goal

pub returns : goal.returns
returns c = trimmed_is c.args.text.now c.trim_ascii.result.now c.trim_ascii.ensures.value
