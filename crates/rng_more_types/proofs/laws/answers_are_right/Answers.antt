use Rattle.rng_more_types.proofs.Decided.{literal_decided, same_decided}
use Rattle.rng_more_types.proofs.laws.answers_are_right.Goals as goal

pub returns-clause-literal : goal.returns-clause-literal
returns-clause-literal c = literal_decided

pub returns-clause-same : goal.returns-clause-same
returns-clause-same c = same_decided
