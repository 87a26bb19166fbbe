use Rattle.rng_restrict.specs.Interleaves.{HasTextTwice}
use Rattle.rng_restrict.specs.Finding.{has_part, is_text_twice}
use Rattle.rng_restrict.proofs.TextsFound.{text_twice_found, text_twice_is_found}
use Rattle.rng_restrict.proofs.Judged.{judged}
use Rattle.rng_core.specs.Meaning.{pattern_of, definitions_of}
use Rattle.rng_restrict.proofs.judge.breaks_text_twice.Goals as goal

pub returns : goal.returns
returns c = judged HasTextTwice (has_part is_text_twice) (pattern_of c.args.grammar.now.start) (definitions_of c.args.grammar.now) c.args.numbers.now c.either.result text_twice_found text_twice_is_found c.requires cc
