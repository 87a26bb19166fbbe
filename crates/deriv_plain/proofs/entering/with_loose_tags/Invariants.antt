-- the tags so far, and those of the openings that are left
use Rattle.std.proofs.Common.{◌≡◌, ◌++◌, length, map}
use Rattle.rng_core.specs.Meaning.{definition_of}
use Rattle.rng_kept.specs.Entering.{tag_of_loose, others}
use Rattle.deriv_pattern.specs.Opened.{openings_of}
use Rattle.deriv_plain.specs.Ways.{outer_of, residual_of}
use Rattle.deriv_plain.proofs.entering.with_loose_tags.Given as goal

abbrev pub invariant-loop-one : goal.invariant-loop-one
invariant-loop-one l =
    residual_of l.all.items ++ map (tag_of_loose (map definition_of l.defs) (outer_of l.outer.value)) (others (openings_of l.strict) (openings_of l.left))
    ≡ residual_of l.fn.ways.items ++ map (tag_of_loose (map definition_of l.defs) (outer_of l.outer.value)) (others (openings_of l.strict) (openings_of l.loose))

abbrev pub decreases-loop-one : goal.decreases-loop-one
decreases-loop-one l = length l.left
