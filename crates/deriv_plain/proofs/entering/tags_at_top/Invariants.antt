-- the tags so far, and those of the openings that are left
use Rattle.std.proofs.Common.{◌≡◌, ◌++◌, length, map}
use Rattle.rng_core.specs.Meaning.{definition_of}
use Rattle.rng_kept.specs.Entering.{tag_at_top}
use Rattle.deriv_pattern.specs.Opened.{openings_of}
use Rattle.deriv_plain.specs.Ways.{residual_of}
use Rattle.deriv_plain.proofs.entering.tags_at_top.Given as goal

abbrev pub invariant-loop-one : goal.invariant-loop-one
invariant-loop-one l = residual_of l.ways.items ++ map (tag_at_top (map definition_of l.defs)) (openings_of l.left)
    ≡ map (tag_at_top (map definition_of l.defs)) (openings_of l.opened)

abbrev pub decreases-loop-one : goal.decreases-loop-one
decreases-loop-one l = length l.left
