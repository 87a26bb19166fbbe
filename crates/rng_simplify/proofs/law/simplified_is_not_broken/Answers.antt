use Rattle.rng_simplify.proofs.Renumbered.{never_broken}
use Rattle.rng_simplify.proofs.law.simplified_is_not_broken.Goals as goal

pub returns : goal.returns
returns c = never_broken c.joins_is_decided.ensures
