use Rattle.rng_simplify.proofs.Written.{made_is_text}
use Rattle.rng_simplify.proofs.law.made_is_text.Goals as goal

pub returns : goal.returns
returns c = made_is_text
