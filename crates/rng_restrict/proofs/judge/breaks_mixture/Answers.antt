use Rattle.rng_restrict.proofs.Judged.{mixture_judged}
use Rattle.rng_core.specs.Meaning.{pattern_of, definitions_of}
use Rattle.rng_restrict.proofs.judge.breaks_mixture.Goals as goal

pub returns : goal.returns
returns c = mixture_judged (pattern_of c.args.grammar.now.start) (definitions_of c.args.grammar.now) c.args.numbers.now c.some_mixture.result c.requires cc
