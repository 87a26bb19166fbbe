use Rattle.std.proofs.Common.{◌≡◌, length}
use Rattle.nx_events.specs.Markup.{has_loose_hyphen}
use Rattle.nx_events.proofs.markup.has_loose_hyphen.Given as goal

abbrev pub invariant-loop-rest : goal.invariant-loop-rest
invariant-loop-rest l = has_loose_hyphen l.rest ≡ has_loose_hyphen l.bytes

abbrev pub decreases-loop-rest : goal.decreases-loop-rest
decreases-loop-rest l = length l.rest
