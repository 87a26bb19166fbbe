use Rattle.rng_simplify.proofs.Refusing.{refused_is_broken}
use Rattle.rng_simplify.proofs.law.refused_is_broken.Goals as goal

pub returns : goal.returns
returns c = refused_is_broken
