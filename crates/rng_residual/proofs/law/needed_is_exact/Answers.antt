use Rattle.rng_residual.proofs.Needed.{needed_is_exact, nothing_is_listed}
use Rattle.rng_residual.proofs.law.needed_is_exact.Goals as goal

pub returns-clause-needed : goal.returns-clause-needed
returns-clause-needed c = needed_is_exact

pub returns-clause-nothing : goal.returns-clause-nothing
returns-clause-nothing c = nothing_is_listed
