use Rattle.rng_simplify.proofs.OneType.{grammar_one}
use Rattle.rng_simplify.proofs.law.grammar_is_one.Goals as goal

pub returns : goal.returns
returns c = grammar_one
