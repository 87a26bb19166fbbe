use Rattle.rng_residual.proofs.Unmentioned.{unmentioned_names_alike}
use Rattle.rng_residual.proofs.law.unmentioned_names_alike.Goals as goal

pub returns : goal.returns
returns c = unmentioned_names_alike
