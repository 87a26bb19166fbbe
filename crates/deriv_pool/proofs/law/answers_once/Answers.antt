use Rattle.deriv_pool.proofs.Single.{answers_once}
use Rattle.deriv_pool.proofs.law.answers_once.Goals as goal

pub returns : goal.returns
returns c = answers_once c.args.pool.now c.no_doubles.ensures.states
