use Rattle.rng_simplify.proofs.Passed.{are_passed}
use Rattle.rng_simplify.proofs.law.composed_are_passed.Goals as goal

pub returns : goal.returns
returns c = are_passed c.joins_is_decided.ensures
