use Rattle.deriv_pool.proofs.Single.{numbers_tell}
use Rattle.deriv_pool.proofs.law.same_number.Goals as goal

pub returns : goal.returns
returns c = numbers_tell c.args.pool.now c.no_doubles.ensures.states
