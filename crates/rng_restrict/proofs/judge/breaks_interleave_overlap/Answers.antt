use Rattle.rng_restrict.specs.Interleaves.{HasInterleaveOverlap}
use Rattle.rng_restrict.specs.Finding.{has_part, is_element_overlap}
use Rattle.rng_restrict.proofs.ElementsFound.{element_overlap_found, element_overlap_is_found}
use Rattle.rng_restrict.proofs.Judged.{judged, either_of}
use Rattle.rng_core.specs.Meaning.{pattern_of, definitions_of}
use Rattle.rng_restrict.proofs.judge.breaks_interleave_overlap.Goals as goal

pub returns : goal.returns
returns c = let defs = definitions_of c.args.grammar.now in judged (HasInterleaveOverlap defs) (has_part (is_element_overlap defs)) (pattern_of c.args.grammar.now.start) defs c.args.numbers.now c.either.result (element_overlap_found defs) (element_overlap_is_found defs) c.requires (either_of c.either.result c.in_ok-in_start.in_start c.in_ok-in_contents.in_contents _ _ c.either.ensures c.in_ok-in_start.ensures c.in_ok-in_contents.ensures)
