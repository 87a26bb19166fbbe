use Rattle.rng_simplify.proofs.Composable.{files_simplified_or_broken}
use Rattle.rng_simplify.proofs.law.simplified_or_broken.Goals as goal

pub returns : goal.returns
returns c = files_simplified_or_broken c.texts_join_or_are_bad.ensures c.texts_are_read_or_refused.ensures
