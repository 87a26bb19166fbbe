-- what is left to let go becomes less
use Rattle.rng_core.specs.Meaning.{pattern_of}
use Rattle.rng_core.specs.Weights.{weight}
use Rattle.rng_core.proofs.grammar.Pat.drop.Given as goal

abbrev pub decreases-loop-next : goal.decreases-loop-next
decreases-loop-next l = weight (pattern_of l.self) (pattern_of l.aside)
