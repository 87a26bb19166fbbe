use Rattle.rng_core.specs.Meaning.{pattern_of}
use Rattle.deriv_pattern.proofs.Same.{pattern_answer}
use Rattle.deriv_pattern.proofs.small.same_pattern.Goals as goal

pub returns : goal.returns
returns c = pattern_answer (pattern_of c.args.p.now) (pattern_of c.args.q.now) c.same.result c.same.ensures
