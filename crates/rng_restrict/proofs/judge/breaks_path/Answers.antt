use Rattle.rng_restrict.proofs.Judged.{path_judged}
use Rattle.rng_core.specs.Meaning.{pattern_of, definitions_of}
use Rattle.rng_restrict.proofs.judge.breaks_path.Goals as goal

pub returns : goal.returns
returns c = path_judged (pattern_of c.args.grammar.now.start) (definitions_of c.args.grammar.now) c.args.numbers.now c.any_fault.result c.requires cc
