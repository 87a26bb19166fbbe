use Rattle.rng_simplify.proofs.Freely.{numbers_are_free}
use Rattle.rng_simplify.proofs.law.numbers_are_free.Goals as goal

pub returns : goal.returns
returns c = numbers_are_free
