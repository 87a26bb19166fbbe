-- what is left by the openings behind
use Rattle.std.proofs.Common.{◌≡◌, ◌≤◌, length, drop}
use Rattle.rng_core.specs.Meaning.{pattern_of}
use Rattle.rng_kept.specs.Entering.{rest_at}
use Rattle.deriv_pattern.specs.Opened.{openings_of}
use Rattle.deriv_pattern.proofs.openings.rest_at.Given as goal

abbrev pub invariant-loop-i : goal.invariant-loop-i
invariant-loop-i l = record {
  within : l.i ≤ length l.opened;
  rest : pattern_of l.left ≡ rest_at l.number (openings_of (drop l.i l.opened));
}

abbrev pub decreases-loop-i : goal.decreases-loop-i
decreases-loop-i l = l.i
