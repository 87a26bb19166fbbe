use Rattle.rng_core.proofs.Same.{datatype_answer}
use Rattle.rng_core.proofs.equality.same_datatype.Goals as goal

pub returns : goal.returns
returns c = datatype_answer c.args.a.now c.args.b.now c.equals.result c.equals.ensures
