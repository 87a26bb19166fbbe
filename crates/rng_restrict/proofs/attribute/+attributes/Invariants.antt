-- both sides are below the pattern, and a pattern is walked anew below each attribute
use Rattle.std.proofs.Common.{◌+◌, ◌*◌, max}
use Rattle.rng_core.specs.declared.grammar.Pat.{size-Pat}
use Rattle.rng_restrict.proofs.attribute.+attributes.Given as goal

abbrev pub decreases-gather : goal.decreases-gather
decreases-gather l = 2 * size-Pat l.pattern.now

abbrev pub decreases-gather_sides : goal.decreases-gather_sides
decreases-gather_sides l = 2 * max (size-Pat l.a.now) (size-Pat l.b.now) + 1

abbrev pub decreases-has_attribute_overlap : goal.decreases-has_attribute_overlap
decreases-has_attribute_overlap l = 2 * size-Pat l.pattern.now + 1
