use Rattle.rng_restrict.specs.Attributes.{HasWildcardOnce}
use Rattle.rng_restrict.specs.Finding.{has_wildcard_once}
use Rattle.rng_restrict.proofs.AttributesFound.{wildcard_once_found, wildcard_once_is_found}
use Rattle.rng_restrict.proofs.Judged.{judged}
use Rattle.rng_core.specs.Meaning.{pattern_of, definitions_of}
use Rattle.rng_restrict.proofs.judge.breaks_wildcard_once.Goals as goal

pub returns : goal.returns
returns c = judged HasWildcardOnce has_wildcard_once (pattern_of c.args.grammar.now.start) (definitions_of c.args.grammar.now) c.args.numbers.now c.either.result wildcard_once_found wildcard_once_is_found c.requires cc
