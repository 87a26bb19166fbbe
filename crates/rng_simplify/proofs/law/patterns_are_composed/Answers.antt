use Rattle.rng_simplify.proofs.Made.{patterns_are_composed}
use Rattle.rng_simplify.proofs.law.patterns_are_composed.Goals as goal

pub returns : goal.returns
returns c = patterns_are_composed
