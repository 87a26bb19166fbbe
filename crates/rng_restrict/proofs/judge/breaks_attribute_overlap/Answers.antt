use Rattle.rng_restrict.specs.Attributes.{HasAttributeOverlap}
use Rattle.rng_restrict.specs.Finding.{has_part, is_attribute_overlap}
use Rattle.rng_restrict.proofs.AttributesFound.{attribute_overlap_found, attribute_overlap_is_found}
use Rattle.rng_restrict.proofs.Judged.{judged, either_of}
use Rattle.rng_core.specs.Meaning.{pattern_of, definitions_of}
use Rattle.rng_restrict.proofs.judge.breaks_attribute_overlap.Goals as goal

pub returns : goal.returns
returns c = judged HasAttributeOverlap (has_part is_attribute_overlap) (pattern_of c.args.grammar.now.start) (definitions_of c.args.grammar.now) c.args.numbers.now c.either.result attribute_overlap_found attribute_overlap_is_found c.requires (either_of c.either.result c.in_ok-in_start.in_start c.in_ok-in_contents.in_contents _ _ c.either.ensures c.in_ok-in_start.ensures c.in_ok-in_contents.ensures)
