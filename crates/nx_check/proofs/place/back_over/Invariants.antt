use Rattle.std.proofs.Common.{◌≡◌}
use Rattle.nx_check.specs.Places.{back_over}
use Rattle.nx_check.proofs.place.back_over.Given as goal

abbrev pub invariant-loop-at : goal.invariant-loop-at
invariant-loop-at l = back_over l.part l.text l.end ≡ back_over l.part l.text l.at

abbrev pub decreases-loop-at : goal.decreases-loop-at
decreases-loop-at l = l.at
