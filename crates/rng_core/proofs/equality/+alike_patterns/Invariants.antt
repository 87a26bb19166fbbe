-- what is left of the two decides, and it is no deeper
use Rattle.std.proofs.Common.{◌≡◌, ◌≤◌}
use Rattle.rng_core.specs.declared.grammar.Pat.{size-Pat}
use Rattle.rng_core.specs.Meaning.{pattern_of}
use Rattle.rng_core.specs.Equality.{same_pattern}
use Rattle.rng_core.proofs.equality.+alike_patterns.Given as goal

abbrev pub invariant-loop-left : goal.invariant-loop-left
invariant-loop-left l = (same_pattern (pattern_of l.left) (pattern_of l.right) ≡ same_pattern (pattern_of l.a) (pattern_of l.b)) × (size-Pat l.left ≤ size-Pat l.a)
