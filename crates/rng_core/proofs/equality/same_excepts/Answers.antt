use Rattle.rng_core.proofs.Same.{excepts_answer}
use Rattle.rng_core.proofs.equality.same_excepts.Goals as goal

pub returns : goal.returns
returns c = excepts_answer c.args.a.now c.args.b.now c.equals.result c.equals.ensures
