use Rattle.rng_core.specs.Meaning.{pattern_of}
use Rattle.deriv_pattern.proofs.Same.{pattern_answer}
use Rattle.deriv_nodes.proofs.leaf.LeafPartialEq.eq.Goals as goal

pub returns : goal.returns
returns c = pattern_answer (pattern_of c.args.self.now.pattern) (pattern_of c.args.other.now.pattern) c.same.result c.same.ensures
