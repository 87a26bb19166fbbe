use Rattle.rng_core.specs.Meaning.{pattern_of}
use Rattle.rng_core.proofs.Same.{pattern_told}
use Rattle.rng_core.proofs.grammar.Pat.same.Goals as goal

pub returns : goal.returns
returns c = pattern_told (pattern_of c.args.self.now) (pattern_of c.args.other.now) c.alike_patterns.result c.alike_patterns.ensures
