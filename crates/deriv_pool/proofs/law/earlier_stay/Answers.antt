use Rattle.deriv_pool.proofs.Single.{earlier_stay}
use Rattle.deriv_pool.proofs.law.earlier_stay.Goals as goal

pub returns : goal.returns
returns c = earlier_stay
