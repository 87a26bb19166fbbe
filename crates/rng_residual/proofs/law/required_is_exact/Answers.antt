use Rattle.rng_residual.proofs.Required.{required_is_exact}
use Rattle.rng_residual.proofs.law.required_is_exact.Goals as goal

pub returns-clause-required : goal.returns-clause-required
returns-clause-required c = required_is_exact
