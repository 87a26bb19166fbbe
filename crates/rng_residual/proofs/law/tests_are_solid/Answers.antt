use Rattle.rng_residual.proofs.Members.{tests_are_solid}
use Rattle.rng_residual.proofs.law.tests_are_solid.Goals as goal

pub returns : goal.returns
returns c = tests_are_solid
